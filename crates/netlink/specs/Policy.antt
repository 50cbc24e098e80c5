-- Document 01, "Sizes on the wire", from the table of types on: what each attribute must be.
use Rattle.std.specs.Prelude.{ℕ, zero, suc, ◌+◌, List, [], ◌∷◌, Bool, true, cond, ◌&&◌, length, get_or, eqb, leb}
use Rattle.netlink.specs.declared.policy.Rule.{Rule}
use Rattle.netlink.specs.declared.policy.Rule.TheVariants.{Unlisted, Nest, Number, Flag, Name, Bytes}
use Rattle.netlink.specs.declared.policy.Fault.TheVariants.{Unknown, Payload}
use Rattle.netlink.specs.declared.policy.Verdict.{Verdict}
use Rattle.netlink.specs.declared.policy.Verdict.TheVariants.{Right, Wrong}

-- the rule for a type under a policy; what is past the policy's end is not listed
unfoldable pub rule_of : List Rule → ℕ → Rule
rule_of policy kind = get_or policy kind Unlisted

-- where the first NUL stands, the length where there is none
unfoldable pub nul_at : List ℕ → ℕ
nul_at [] = 0
nul_at (zero ∷ s) = 0
nul_at (suc b ∷ s) = suc (nul_at s)

-- a name: the last byte is NUL and no other, and there are at most max bytes
unfoldable pub is_name_payload : ℕ → List ℕ → Bool
is_name_payload max s = eqb (nul_at s + 1) (length s) && leb (length s) max

-- right, or the fault of the payload
abbrev pub right_if : Bool → Verdict
right_if fits = cond fits Right (Wrong Payload)

-- other attributes than nests carry neither 0x8000 nor 0x4000
unfoldable pub plain : ℕ → Bool → Verdict
plain bits fits = right_if (eqb bits 0 && fits)

-- a nest carries 0x8000 and not 0x4000
unfoldable pub nested : ℕ → Verdict
nested bits = right_if (eqb bits 2)

-- whether an attribute's bits and payload are as the rule for its type wants them; a type that is not listed is told before all else
unfoldable pub judged : Rule → ℕ → List ℕ → Verdict
judged Unlisted bits payload = Wrong Unknown
judged Nest bits payload = nested bits
judged Number bits payload = plain bits (eqb (length payload) 4)
judged Flag bits payload = plain bits (eqb (length payload) 0)
judged (Name max) bits payload = plain bits (is_name_payload max payload)
judged Bytes bits payload = plain bits true
