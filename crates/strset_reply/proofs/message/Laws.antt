-- Laws of writing the message: the port where one is named, its two attributes, and the headers in front of the attributes that they count.
use Prim.Native.Nat.{ℕ, ◌+◌, ◌-◌, ◌^◌, ◌≤◌}
use mathlib.Core.Path.{◌≡◌, refl, sym}
use mathlib.Core.Bool.{Bool, true, false, not}
use mathlib.Core.List.{List}
use lib.Dec.{T, leb}
use lib.ListN.{length, take, drop}
use native.Mathlib.Omega.{arith}
use borrow.Author.Rules.{Fits-under}
use borrow.Author.Tests.{not-true, not-false}
use borrow.Rule.Slice.PartMut.{put_mid}
use mir.Syntax.{Width}
use mir.Val.{Fits, bits}
use Rattle.basics.specs.Put.{put}
use Rattle.basics.proofs.Put.{put-nil, length_rest}
use Rattle.entries.specs.Entry.{count}
use Rattle.page.specs.Page.{Wrote}
use Rattle.page.proofs.Page.{wrote_then, then-sized}
use Rattle.netlink_write.specs.Attributes.{nest}
use Rattle.netlink_write.proofs.attributes.Laws.{length-nest}
use Rattle.index_name.specs.IndexName.{index_nest}
use Rattle.layout.specs.Layout.{names_of}
use Rattle.reply.specs.Message.{headers_bytes}
use Rattle.reply.specs.declared.message.Heading.{Heading}
use Rattle.reply.proofs.message.Laws.{length-headers}
use Rattle.strset_request.specs.declared.list.Sets.{Sets}
use Rattle.strset_reply.specs.Sets.{sets_bytes}
use Rattle.strset_reply.specs.Message.{strset_content_of, port_nest, strset_attributes, strset_reply}
use Rattle.strset_reply.proofs.sets.Lengths.{sets-most}
use Rattle.strset_reply.proofs.message.Lengths.{length-attributes, attributes-most, length-reply}

-- the port
module _ (P name : List ℕ) (named : Bool) (index : ℕ) where
  pub port-none : not named ≡ true → Wrote (port_nest named index name) P P 0
  unfolding port_nest
  port-none e = rw (not-true named e) (record { count = refl; page = sym (put-nil P) })

  pub port-some : (Q : List ℕ) (r : ℕ) → not named ≡ false → Wrote (index_nest 1 index name) P Q r → Wrote (port_nest named index name) P Q r
  unfolding port_nest
  port-some Q r e w = rw (not-false named e) w

pub ruleset port-laws = (port-none, port-some)

-- the port, then STRINGSETS
module _ (named : Bool) (index : ℕ) (name debug flags : List ℕ) (sets : Sets) (counts : Bool) where
  module _ (P : List ℕ) (room : length (strset_attributes (strset_content_of named index name (names_of debug flags) sets counts)) ≤ length P)
      (A : List ℕ) (p : ℕ) (a : Wrote (port_nest named index name) P A p) where
    pub attributes-rest : length A ≡ length P → length (sets_bytes counts (names_of debug flags) sets) + 4 ≤ length (take (length A - p) (drop p A))
    attributes-rest same = omega (arith, a.count, length-attributes named index name debug flags sets counts, length_rest p A)

    pub attributes-wrote : (B : List ℕ) (s : ℕ) → Wrote (nest 2 (sets_bytes counts (names_of debug flags) sets)) (take (length A - p) (drop p A)) B s
        → Wrote (strset_attributes (strset_content_of named index name (names_of debug flags) sets counts)) P (put_mid p (length A - p) A B) (p + s)
    unfolding strset_attributes
    attributes-wrote B s b =
        wrote_then P A B (port_nest named index name) (nest 2 (sets_bytes counts (names_of debug flags) sets)) p s
        (omega (arith, a.count, length-attributes named index name debug flags sets counts)) a b

pub attributes-fit : (debug flags P Q : List ℕ) (sets : Sets) (counts : Bool) (p s : ℕ) (w : Width) → p ≤ 36
    → Wrote (nest 2 (sets_bytes counts (names_of debug flags) sets)) P Q s → count debug ≤ 512 → count flags ≤ 512 → T (leb 53337 (2 ^ bits w)) → Fits w (p + s)
attributes-fit debug flags P Q sets counts p s w h b hd hf t =
    Fits-under w (p + s) 53337
    (omega (arith, b.count, length-nest 2 (sets_bytes counts (names_of debug flags) sets), sets-most counts debug flags hd hf sets)) t

pub ruleset attributes-laws = (attributes-rest, attributes-wrote, attributes-fit)

-- the headers in front
module _ (named : Bool) (index : ℕ) (name debug flags : List ℕ) (sets : Sets) (counts : Bool) where
  pub reply-few : (P A : List ℕ) (k : ℕ) → length name ≤ 16 → count debug ≤ 512 → count flags ≤ 512
      → Wrote (strset_attributes (strset_content_of named index name (names_of debug flags) sets counts)) P A k → k ≤ 65535
  reply-few P A k h hd hf w = omega (arith, w.count, attributes-most named index name debug flags sets counts h hd hf)

  pub reply-most : (P A : List ℕ) (k r : ℕ) → length name ≤ 16 → count debug ≤ 512 → count flags ≤ 512
      → Wrote (strset_attributes (strset_content_of named index name (names_of debug flags) sets counts)) P A k → r ≡ k + 20 → r ≤ 53356
  reply-most P A k r h hd hf w e = omega (arith, w.count, attributes-most named index name debug flags sets counts h hd hf)

  module _ (P : List ℕ) (h : Heading) (room : length (strset_reply h (strset_content_of named index name (names_of debug flags) sets counts)) ≤ length P) where
    pub reply-rest : length (strset_attributes (strset_content_of named index name (names_of debug flags) sets counts)) ≤ length (take (length P - 20) (drop 20 P))
    reply-rest = omega (arith, length-reply named index name debug flags sets counts h, length_rest 20 P)

    pub reply-within : (Q A : List ℕ) (k r : ℕ) → Wrote (strset_attributes (strset_content_of named index name (names_of debug flags) sets counts)) Q A k
        → r ≡ k + 20 → r ≤ length P
    reply-within Q A k r w e = omega (arith, w.count, length-reply named index name debug flags sets counts h)

    pub reply-wrote : (A B : List ℕ) (k r : ℕ) → Wrote (strset_attributes (strset_content_of named index name (names_of debug flags) sets counts)) (take (length P - 20) (drop 20 P)) A k
        → r ≡ k + 20 → B ≡ put (put_mid 20 (length P - 20) P A) (headers_bytes h (k + 20))
        → Wrote (strset_reply h (strset_content_of named index name (names_of debug flags) sets counts)) P B r
    unfolding strset_reply
    reply-wrote A B k r w er q =
        let body = strset_attributes (strset_content_of named index name (names_of debug flags) sets counts) in
        let front : ℕ → List ℕ = λ j. headers_bytes h (j + 20) in
        let long = length-reply named index name debug flags sets counts h in
        record {
          count = omega (arith, w.count);
          page = then-sized P front body 20 k (length-headers h (length body + 20)) (omega arith) w.count w.page q;
        }

pub ruleset reply-laws = (reply-few, reply-most, reply-rest, reply-within, reply-wrote)
