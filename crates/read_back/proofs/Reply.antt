-- Read back: netlink reads a reply's two attributes, and the set's nest gives the stored set.
use Prim.Native.Nat.{ℕ, ◌+◌, ◌≤◌, ◌<◌}
use mathlib.Core.Path.{◌≡◌, refl, sym, ap, ◌∙◌}
use mathlib.Core.Bool.{Bool, true}
use mathlib.Core.List.{List, [], ◌++◌, append_assoc, append-nil}
use lib.ListN.{length, length-append}
use native.Mathlib.Omega.{arith}
use Rattle.bits.specs.Set.{has, words_for}
use Rattle.bits.specs.Change.{Below}
use Rattle.entries.specs.Entry.{count}
use Rattle.names.specs.Rule.{names_right}
use Rattle.names.proofs.Rules.{right-means}
use Rattle.netlink_attributes.specs.Attributes.{attributes}
use Rattle.netlink_attributes.specs.Attributes.Attributes.{done, attribute}
use Rattle.netlink.specs.Policy.{nul_at}
use Rattle.netlink_write.specs.Attributes.{nest}
use Rattle.index_name.specs.IndexName.{index_and_name, index_nest}
use Rattle.netlink_write.proofs.ReadBack.{attributes-end}
use Rattle.netlink_write.proofs.attributes.Laws.{length-nest}
use Rattle.bitset_reply.specs.Set.{contents_bytes, set_bytes}
use Rattle.reply.specs.Message.{headers_bytes, content_of, attributes_bytes, reply_bytes}
use Rattle.read_back.specs.Claims.{ReadsBack}
use Rattle.reply.specs.declared.message.Heading.{Heading}
use Rattle.read_back.proofs.Places.{part-all, up_to, nest-at, contents-at, cut_at}
use Rattle.index_name.proofs.Laws.{index-name-whole, index-name-most, length-index-nest}
use Rattle.bitset_reply.proofs.list.Lengths.{Short, right-short}
use Rattle.bitset_reply.proofs.set.Lengths.{contents-whole, contents-most}
use Rattle.read_back.proofs.Set.{set_back}
use Rattle.reply.proofs.message.Laws.{length-headers}
use Rattle.reply.proofs.message.Lengths.{length-parts}

module _ (h : Heading) (index : ℕ) (name : List ℕ) (compact : Bool) (names words : List ℕ) (n : ℕ)
    (right : names_right names ≡ true) (en : count names ≡ n) (ew : length words ≡ words_for n) where
  reply : List ℕ
  reply = reply_bytes h (content_of index name compact names words n)

  contents : List ℕ
  contents = contents_bytes compact names words n

  headers : List ℕ
  headers = headers_bytes h (length (attributes_bytes (content_of index name compact names words n)) + 20)

  long : length headers ≡ 20
  unfolding headers
  long = length-headers h (length (attributes_bytes (content_of index name compact names words n)) + 20)

  port-in : reply ≡ headers ++ (index_nest 1 index name ++ nest 2 contents)
  unfolding reply headers contents reply_bytes attributes_bytes set_bytes
  port-in = refl

  set-in : reply ≡ (headers ++ index_nest 1 index name) ++ (nest 2 contents ++ [])
  set-in =
      port-in ∙ sym (append_assoc headers (index_nest 1 index name) (nest 2 contents))
      ∙ ap (λ (l : List ℕ). (headers ++ index_nest 1 index name) ++ l) (sym (append-nil (nest 2 contents)))

  set_at : 20 + length (index_nest 1 index name) ≡ length (headers ++ index_nest 1 index name)
  set_at = omega (arith, long, length-append headers (index_nest 1 index name))

  total : length reply ≡ length contents + length (index_nest 1 index name) + 24
  unfolding reply contents
  total = length-parts h (content_of index name compact names words n)

  -- its attributes: the port's nest, then the set's, which ends the message
  pub reply-attributes : nul_at name < 16 → attributes (reply_bytes h (content_of index name compact names words n)) 20
      ≡ attribute 1 2 24 (20 + length (index_nest 1 index name))
      (attribute 2 2 (24 + length (index_nest 1 index name)) (length (reply_bytes h (content_of index name compact names words n))) done)
  unfolding reply contents index_nest
  reply-attributes port =
      let few : n ≤ 512 = rw en at (right-means names right).few in
      let short : Short names n = rw en at (right-short names right) in
      let long-port = length-index-nest index name 1 in
      let set = 20 + length (index_nest 1 index name) in
      nest-at reply headers (nest 2 contents) (index_and_name index name) 1 20 port-in (sym long) 24 set set
      (omega arith) (omega (arith, index-name-most index name)) (index-name-whole index name) refl (omega arith) refl
      ∙ ap (attribute 1 2 24 set)
      (nest-at reply (headers ++ index_nest 1 index name) [] contents 2 set set-in set_at (24 + length (index_nest 1 index name)) (length reply) (length reply)
      (omega arith) (omega (arith, contents-most names words n compact few ew short)) (contents-whole names words n compact) (omega arith)
      (omega (arith, total)) (omega (arith, total, length-nest 2 contents))
      ∙ ap (attribute 2 2 (24 + length (index_nest 1 index name)) (length reply)) (attributes-end reply (length reply) (omega arith)))

  -- the set
  pub reply-back : Below n (has words)
      → ReadsBack (reply_bytes h (content_of index name compact names words n)) (24 + length (index_nest 1 index name)) names (has words)
  unfolding reply contents
  reply-back below =
      let pre = headers ++ index_nest 1 index name in
      let set = 20 + length (index_nest 1 index name) in
      let cut = cut_at reply pre [] contents 2 set set-in set_at (length reply) (omega (arith, total)) in
      let place = contents-at reply pre [] contents 2 set set-in set_at (24 + length (index_nest 1 index name)) (omega arith) in
      rw (sym (part-all reply (length reply) refl) ∙ cut, place) (set_back (up_to pre 2 contents) names words n right en ew below compact)
