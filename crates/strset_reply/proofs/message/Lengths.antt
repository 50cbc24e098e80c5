-- How long the port's nest and the attributes are.
use Prim.Native.Nat.{ℕ, ◌+◌, ◌≤◌}
use mathlib.Core.Path.{◌≡◌, refl, ap, ◌∙◌}
use mathlib.Core.Bool.{Bool, true, false}
use mathlib.Core.List.{List, append-nil}
use lib.ListN.{length, length-append}
use native.Mathlib.Omega.{arith}
use borrow.Author.Tests.{eq-eqb, ne_eqb}
use Rattle.basics.specs.Numbers.{le32}
use Rattle.entries.specs.Entry.{count}
use Rattle.netlink_headers.specs.Lengths.{round_up4}
use Rattle.netlink.specs.Policy.{nul_at}
use Rattle.netlink_write.specs.Attributes.{attr, nest, name_bytes}
use Rattle.netlink_write.proofs.attributes.Laws.{length-attr, length-nest, nul-le}
use Rattle.netlink_write.proofs.exact_name.Laws.{length-name-attr}
use Rattle.index_name.specs.IndexName.{name_if_any, index_and_name}
use Rattle.index_name.proofs.Laws.{index-name-most, length-index-nest}
use Rattle.layout.specs.Layout.{names_of}
use Rattle.reply.specs.Message.{headers_bytes}
use Rattle.reply.specs.declared.message.Heading.{Heading}
use Rattle.reply.proofs.message.Laws.{length-headers}
use Rattle.strset_request.specs.declared.list.Sets.{Sets}
use Rattle.strset_reply.specs.Sets.{sets_bytes}
use Rattle.strset_reply.specs.Message.{strset_content_of, port_nest, strset_attributes, strset_reply}
use Rattle.strset_reply.proofs.sets.Lengths.{sets-most}

-- the port's nest
module _ (index : ℕ) (name : List ℕ) where
  pub length-no-port : length (port_nest false index name) ≡ 0
  unfolding port_nest
  length-no-port = refl

  pub length-port : length (port_nest true index name) ≡ length (index_and_name index name) + 4
  unfolding port_nest
  length-port = length-index-nest index name 1

  pub length-index-alone : nul_at name ≡ 0 → length (index_and_name index name) ≡ 8
  unfolding index_and_name name_if_any
  length-index-alone e =
      rw (eq-eqb (nul_at name) 0 e) (ap length (append-nil (attr 1 (le32 index))) ∙ length-attr 1 (le32 index))

  pub length-index-name : (nul_at name ≡ 0 → ⊥) → length (index_and_name index name) ≡ round_up4 (nul_at name + 5) + 8
  unfolding index_and_name name_if_any
  length-index-name h =
      rw (ne_eqb (nul_at name) 0 h)
      (let two = attr 2 (name_bytes name) in
      omega (arith, length-append (attr 1 (le32 index)) two, length-attr 1 (le32 index), length-name-attr 2 name))

  pub port-most : (named : Bool) → length name ≤ 16 → length (port_nest named index name) ≤ 36
  port-most true h = omega (arith, length-port, index-name-most index name, nul-le name)
  port-most false h = omega (arith, length-no-port)

-- the attributes, and the reply
module _ (named : Bool) (index : ℕ) (name debug flags : List ℕ) (sets : Sets) (counts : Bool) where
  pub length-attributes : length (strset_attributes (strset_content_of named index name (names_of debug flags) sets counts))
      ≡ length (port_nest named index name) + length (sets_bytes counts (names_of debug flags) sets) + 4
  unfolding strset_attributes
  length-attributes =
      let bytes = sets_bytes counts (names_of debug flags) sets in
      omega (arith, length-append (port_nest named index name) (nest 2 bytes), length-nest 2 bytes)

  pub attributes-most : length name ≤ 16 → count debug ≤ 512 → count flags ≤ 512
      → length (strset_attributes (strset_content_of named index name (names_of debug flags) sets counts)) ≤ 53336
  attributes-most h hd hf = omega (arith, length-attributes, port-most index name named h, sets-most counts debug flags hd hf sets)

  pub length-reply : (h : Heading) → length (strset_reply h (strset_content_of named index name (names_of debug flags) sets counts))
      ≡ length (strset_attributes (strset_content_of named index name (names_of debug flags) sets counts)) + 20
  unfolding strset_reply
  length-reply h =
      let body = strset_attributes (strset_content_of named index name (names_of debug flags) sets counts) in
      omega (arith, length-append (headers_bytes h (length body + 20)) body, length-headers h (length body + 20))
