-- Request C-13: "The port is optional here, so 14 falls away". The header level of a request that may name no port.
use Rattle.std.specs.Prelude.{List, ℕ, Bool, ◌||◌, cond, Result, Ok, Err}
use Rattle.basics.specs.Results.{and_then}
use Rattle.netlink_attributes.specs.Attributes.{part_of}
use Rattle.netlink.specs.Walk.{walked}
use Rattle.netlink.specs.declared.walk.Slot.{Slot}
use Rattle.refusal.specs.Refusal.{on_walk}
use Rattle.request.specs.Policies.{header_policy}
use Rattle.request.specs.Parts.{header_parts}
use Rattle.request.specs.Header.{flags_judged}
use Rattle.request.specs.Port.{port_of}
use Rattle.request.specs.Target.{with_flags}
use Rattle.request.specs.declared.parts.HeaderParts.{HeaderParts}
use Rattle.refusal.specs.declared.Refusal.{Refusal}
use Rattle.request.specs.declared.header.Header.{Header}
use Rattle.request.specs.declared.target.Addressee.{Addressee}
use Rattle.request.specs.declared.target.Addressee.TheVariants.{Unnamed}

-- the header nest, walked whole as in every request; then 15, with a port or without
unfoldable pub optional_header_of : List ℕ → Slot → Result Header Refusal
optional_header_of m header =
    on_walk (walked header_policy (part_of m 0 header.end) header.start) Err (λ slots. flags_judged m (header_parts slots))

-- a port is named, by index or by name
abbrev pub gives_port : HeaderParts → Bool
gives_port parts = parts.index.present || parts.name.present

-- then 16 and 17 where a port is named
unfoldable pub optional_target_of : List ℕ → Slot → List ℕ → Result Addressee Refusal
optional_target_of m header roll =
    and_then (optional_header_of m header) (λ h. cond (gives_port h.parts) (with_flags (port_of m header h.parts roll) h.flags) (Ok (Unnamed h.flags)))
