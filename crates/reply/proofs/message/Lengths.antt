-- How long a reply is: whole words, and at most 24,648 bytes where the names are right.
use Prim.Native.Nat.{ℕ, ◌+◌, ◌%◌, ◌≤◌, ◌<◌}
use mathlib.Core.Path.{◌≡◌}
use mathlib.Core.Bool.{true}
use mathlib.Core.List.{List}
use lib.ListN.{length, length-append}
use native.Mathlib.Omega.{arith}
use Rattle.bits.specs.Set.{words_for}
use Rattle.entries.specs.Entry.{count}
use Rattle.names.specs.Rule.{names_right}
use Rattle.names.proofs.Rules.{right-means}
use Rattle.netlink.specs.Policy.{nul_at}
use Rattle.index_name.specs.IndexName.{index_nest}
use Rattle.netlink_write.proofs.attributes.Laws.{length-nest}
use Rattle.bitset_reply.specs.Set.{contents_bytes, set_bytes}
use Rattle.reply.specs.Message.{headers_bytes, Content, attributes_bytes, reply_bytes}
use Rattle.reply.specs.declared.message.Heading.{Heading}
use Rattle.index_name.proofs.Laws.{index-name-whole, index-name-most, length-index-nest}
use Rattle.bitset_reply.proofs.list.Lengths.{Short, right-short}
use Rattle.bitset_reply.proofs.set.Lengths.{contents-whole, contents-most}
use Rattle.reply.proofs.message.Laws.{length-headers}

module _ (h : Heading) (content : Content) where
  abbrev set-contents : List ℕ
  set-contents = contents_bytes content.compact content.names content.words content.bits

  abbrev port-nest : List ℕ
  port-nest = index_nest 1 content.index content.name

  -- the length that its header states
  pub length-reply : length (reply_bytes h content) ≡ length (attributes_bytes content) + 20
  unfolding reply_bytes
  length-reply =
      let attributes = attributes_bytes content in
      omega (arith, length-append (headers_bytes h (length attributes + 20)) attributes, length-headers h (length attributes + 20))

  pub length-parts : length (reply_bytes h content) ≡ length set-contents + length port-nest + 24
  unfolding attributes_bytes set_bytes
  length-parts =
      omega (
        arith,
        length-reply,
        length-append port-nest (set_bytes content.compact content.names content.words content.bits),
        length-nest 2 set-contents,
      )

  pub reply-whole : length (reply_bytes h content) % 4 ≡ 0
  reply-whole =
      omega (
        arith,
        length-parts,
        contents-whole content.names content.words content.bits content.compact,
        length-index-nest content.index content.name 1,
        index-name-whole content.index content.name,
      )

  pub longest : nul_at content.name < 16 → names_right content.names ≡ true → count content.names ≡ content.bits
      → length content.words ≡ words_for content.bits → length (reply_bytes h content) ≤ 24648
  longest port right en ew =
      let short : Short content.names content.bits = rw en at (right-short content.names right) in
      let few : content.bits ≤ 512 = rw en at (right-means content.names right).few in
      omega (
        arith,
        length-parts,
        contents-most content.names content.words content.bits content.compact few ew short,
        length-index-nest content.index content.name 1,
        index-name-most content.index content.name,
      )
