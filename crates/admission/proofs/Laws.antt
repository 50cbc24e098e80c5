-- Laws of admission: one for each return.
use Prim.Native.Nat.{ℕ, ◌/◌, ◌%◌, ◌≤◌, ◌<◌}
use mathlib.Core.Path.{◌≡◌, refl, sym, ap, ◌∙◌}
use mathlib.Core.List.{List}
use mathlib.Core.Bool.{Bool, true, false, ◌&&◌, not, cond}
use mathlib.Core.Logic.{⊎_elim}
use lib.ListN.{length}
use lib.Dec.{ltb, eqb}
use native.Mathlib.Omega.{arith}
use borrow.Author.Tests.{lt-ltb, le-ltb, eq-eqb, ne_eqb}
use Rattle.basics.specs.Numbers.{byte_at}
use Rattle.basics.proofs.Order.{lt-or-ge}
use Rattle.basics.proofs.Truth.{cond-true, cond-false}
use Rattle.netlink_headers.specs.Headers.{generic_header, generic_header_at}
use Rattle.netlink_headers.specs.declared.headers.GenericHeader.{GenericHeader}
use Rattle.netlink_headers.specs.declared.headers.GenericHeaderRead.{GenericHeaderRead}
use Rattle.netlink_headers.specs.declared.headers.GenericHeaderRead.TheVariants as G
use Rattle.netlink_headers.specs.declared.headers.MessageHeader.{MessageHeader}
use Rattle.netlink_headers.proofs.headers.Laws.{generic-short, generic-whole}
use Rattle.refusal.specs.declared.Refusal.TheVariants as R
use Rattle.admission.specs.Commands.{command_of}
use Rattle.admission.specs.Admission.{is_dump, no_dump, not_permitted, permitted, strset_permitted, on_command, admitted}
use Rattle.admission.specs.declared.commands.Command.{Command}
use Rattle.std.specs.Prelude.{Option, Some, None, Result, Ok, Err}
use Rattle.refusal.specs.declared.Refusal.{Refusal}
use Rattle.admission.specs.declared.commands.Listed.{Listed}
use Rattle.admission.specs.declared.Admission.{Admission}
use Rattle.admission.specs.declared.commands.Listed.TheVariants as C
use Rattle.admission.specs.declared.Admission.TheVariants.{Admitted, Skipped, Strset}

module _ (command : Command) (admin : Bool) where
  pub permission-change : command.change ≡ true → not admin ≡ not_permitted command admin
  unfolding not_permitted
  permission-change h = sym (ap (λ (x : Bool). x && not admin) h)

  pub permission-get : command.change ≡ false → false ≡ not_permitted command admin
  unfolding not_permitted
  permission-get h = sym (ap (λ (x : Bool). x && not admin) h)

pub ruleset permission-laws = (permission-change, permission-get)

pub dump-is : (h : MessageHeader) → eqb (h.flags / 256 % 4) 3 ≡ is_dump h
unfolding is_dump
dump-is h = refl

module _ (h : MessageHeader) (command : Command) where
  pub asked-dump : (b : Bool) → b ≡ is_dump h → b ≡ true → not command.dump ≡ no_dump h command
  unfolding no_dump
  asked-dump b e q = sym (ap (λ (x : Bool). x && not command.dump) (sym e ∙ q))

  pub asked-one : (b : Bool) → b ≡ is_dump h → b ≡ false → false ≡ no_dump h command
  unfolding no_dump
  asked-one b e q = sym (ap (λ (x : Bool). x && not command.dump) (sym e ∙ q))

pub ruleset no-dump-laws = (asked-dump, asked-one)

module _ (h : MessageHeader) (command : Command) (admin : Bool) where
  module _ (d : Bool) (ed : d ≡ no_dump h command) where
    by-dump : permitted h admin command ≡ cond d (Err R.Dump) (cond (not_permitted command admin) (Err R.Permission) (Ok (Admitted command)))
    unfolding permitted
    by-dump = rw (← ed)

    pub permit-dump : d ≡ true → Err R.Dump ≡ permitted h admin command
    permit-dump q = sym (by-dump ∙ cond-true d _ _ q)

    module _ (q : d ≡ false) (b : Bool) (eb : b ≡ not_permitted command admin) where
      past-dump : permitted h admin command ≡ cond b (Err R.Permission) (Ok (Admitted command))
      past-dump = by-dump ∙ cond-false d _ _ q ∙ rw (← eb)

      pub permit-refused : b ≡ true → Err R.Permission ≡ permitted h admin command
      permit-refused z = sym (past-dump ∙ cond-true b _ _ z)

      pub permit-admitted : b ≡ false → Ok (Admitted command) ≡ permitted h admin command
      permit-admitted z = sym (past-dump ∙ cond-false b _ _ z)

module _ (h : MessageHeader) (b : Bool) (eb : b ≡ is_dump h) where
  pub strset-dump : b ≡ true → Err R.Dump ≡ strset_permitted h
  unfolding strset_permitted
  strset-dump q = sym (cond-true (is_dump h) _ _ (sym eb ∙ q))

  pub strset-one : b ≡ false → (Ok Strset) ≡ strset_permitted h
  unfolding strset_permitted
  strset-one q = sym (cond-false (is_dump h) _ _ (sym eb ∙ q))

pub ruleset strset-laws = (strset-dump, strset-one)

pub ruleset permit-laws = (permit-dump, permit-refused, permit-admitted)

-- what is learnt of the generic header: it is missing below 20 bytes, and holds the command
module _ (m : List ℕ) (g : GenericHeaderRead) (e : g ≡ generic_header_at m 16) where
  generic-cut : g ≡ G.Short → length m < 20
  generic-cut q = ⊎_elim (λ l. l) (λ k. absurd (both (generic-whole m 16 _ _ _ k refl refl refl))) (lt-or-ge (length m) 20)
    where
      both : G.Header (generic_header m 16) ≡ generic_header_at m 16 → ⊥
      both w = let z : ◌≡◌ {A = ℕ} 0 1 = cc in omega arith

  module _ (x : GenericHeader) (q : g ≡ G.Header x) where
    generic-fits : 20 ≤ length m
    generic-fits = ⊎_elim (λ l. absurd (both (generic-short m 16 l))) (λ k. k) (lt-or-ge (length m) 20)
      where
        both : G.Short ≡ generic_header_at m 16 → ⊥
        both w = let z : ◌≡◌ {A = ℕ} 0 1 = cc in omega arith

    generic-command : x.command ≡ byte_at m 16
    generic-command =
        let w = generic-whole m 16 _ _ _ generic-fits refl refl refl in
        let same : x ≡ generic_header m 16 = cc in
        ap (λ (y : GenericHeader). y.command) same

module _ (m : List ℕ) (h : MessageHeader) (family : ℕ) (admin : Bool) where
  pub admit-low : h.kind < 16 → (Ok Skipped) ≡ admitted m h family admin
  unfolding admitted
  admit-low l = sym (rw (lt-ltb _ _ l))

  module _ (k : 16 ≤ h.kind) where
    pub admit-unasked : h.flags % 2 ≡ 0 → (Ok Skipped) ≡ admitted m h family admin
    unfolding admitted
    admit-unasked q = sym (rw (le-ltb _ _ k, eq-eqb _ _ q))

    module _ (r : h.flags % 2 ≡ 0 → ⊥) where
      pub admit-other : (h.kind ≡ family → ⊥) → Err R.Family ≡ admitted m h family admin
      unfolding admitted
      admit-other q = sym (rw (le-ltb _ _ k, ne_eqb _ _ r, ne_eqb _ _ q))

      module _ (f : h.kind ≡ family) (g : GenericHeaderRead) (eg : g ≡ generic_header_at m 16) where
        ours : admitted m h family admin ≡ cond (ltb (length m) 20) (Err R.Short) (on_command (command_of (byte_at m 16)) (strset_permitted h) (permitted h admin))
        unfolding admitted
        ours = rw (le-ltb _ _ k, ne_eqb _ _ r, eq-eqb _ _ f)

        pub admit-short : g ≡ G.Short → Err R.Short ≡ admitted m h family admin
        admit-short q = sym (ours ∙ rw (lt-ltb _ _ (generic-cut m g eg q)))

        module _ (x : GenericHeader) (q : g ≡ G.Header x) (c : Option Listed) (ec : c ≡ command_of x.command) where
          whole : admitted m h family admin ≡ on_command c (strset_permitted h) (permitted h admin)
          whole =
              ours ∙ rw (le-ltb _ _ (generic-fits m g eg x q))
              (ap (λ (y : Option Listed). on_command y (strset_permitted h) (permitted h admin)) (sym (ec ∙ ap command_of (generic-command m g eg x q))))

          pub admit-unlisted : c ≡ None → Err R.Command ≡ admitted m h family admin
          admit-unlisted z = sym (rw z at whole)

          module _ (l : Listed) (z : c ≡ Some l) where
            pub admit-strset : (a : Result Admission Refusal) → l ≡ C.Strset → a ≡ strset_permitted h → a ≡ admitted m h family admin
            admit-strset a el ea = ea ∙ sym (rw (z ∙ ap Some el) at whole)

            pub admit-listed : (command : Command) (a : Result Admission Refusal) → l ≡ C.OfSet command → a ≡ permitted h admin command → a ≡ admitted m h family admin
            admit-listed command a el ea = ea ∙ sym (rw (z ∙ ap Some el) at whole)

pub ruleset admit-laws = (admit-low, admit-unasked, admit-other, admit-short, admit-unlisted, admit-strset, admit-listed)
