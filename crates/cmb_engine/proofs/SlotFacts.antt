-- What the slots of a design show: the nets their values, and the lines those of other nets later. And how far ahead of the clock
-- a slot is told.
use Rattle.std.proofs.Common.{◌≡◌, ℕ, ◌+◌, ◌-◌, ◌<◌, ◌≤◌, ◌⊎◌, inl, inr, true, false, Some, List, refl, ap, ◌∙◌, arith, ltb}
use Rattle.std.specs.Prelude.{slice_get}
use Rattle.std.proofs.lemmas.Bool.{lt-ltb, le-ltb, cases_lt}
use Rattle.cmb_wave.specs.declared.level.Level.{Level}
use Rattle.cmb_design_model.specs.Design.{Design}
use Rattle.cmb_design_model.specs.Exact.{nets_of}
use Rattle.cmb_design_model.specs.Value.{delayed, value}
use Rattle.cmb_engine.specs.Inner.Circuits.{Shows}
use Rattle.cmb_engine.specs.Inner.Roles.{level_in}
use Rattle.cmb_engine.specs.Inner.Tells.{reach_of}
use Rattle.cmb_engine.specs.Inner.Traces.{line_level, trace_of}
use Rattle.cmb_engine.specs.Inner.Windows.{in_place}
use Rattle.cmb_engine.specs.declared.cell.Pin.{Pin}
use Rattle.cmb_engine.specs.declared.role.Role.{Role}

pub trace-net : (design : Design) (roles : List Role) (lines : List Pin) (slot tick : ℕ) → slot < nets_of design → trace_of design roles lines slot tick ≡ level_in design roles slot tick
unfolding trace_of value
trace-net design roles lines slot tick net = let e : ltb slot (nets_of design) ≡ true = lt-ltb _ _ net in rw e

-- a slot behind the nets
pub trace-behind : (design : Design) (roles : List Role) (lines : List Pin) (slot tick : ℕ) → nets_of design ≤ slot
    → trace_of design roles lines slot tick ≡ line_level (level_in design roles) (slice_get lines (slot - nets_of design)) tick
unfolding trace_of
trace-behind design roles lines slot tick behind = let e : ltb slot (nets_of design) ≡ false = le-ltb _ _ behind in rw e refl

-- the slot of a line
pub trace-line : (design : Design) (roles : List Role) (lines : List Pin) (slot tick : ℕ) (line : Pin) → nets_of design ≤ slot → slice_get lines (slot - nets_of design) ≡ Some line
    → trace_of design roles lines slot tick ≡ delayed (level_in design roles line.net) line.delay tick
trace-line design roles lines slot tick line behind is = trace-behind design roles lines slot tick behind ∙ ap (λ found. line_level (level_in design roles) found tick) is

pub reach-net : (nets : ℕ) (lines : List Pin) (horizon slot : ℕ) → slot < nets → reach_of nets lines horizon slot ≡ horizon
unfolding reach_of
reach-net nets lines horizon slot net = let e : ltb slot nets ≡ true = lt-ltb _ _ net in rw e

pub reach-line : (nets : ℕ) (lines : List Pin) (horizon slot : ℕ) (line : Pin) → nets ≤ slot → slice_get lines (slot - nets) ≡ Some line → reach_of nets lines horizon slot ≡ line.delay
unfolding reach_of
reach-line nets lines horizon slot line behind is = let e : ltb slot nets ≡ false = le-ltb _ _ behind in rw (e, is)

-- waveforms that are the same are so in each place
pub in_place-same : (f g : ℕ → Level) (to place : ℕ) → ((tick : ℕ) → f tick ≡ g tick) → in_place f to place ≡ in_place g to place
in_place-same f g to place same = go (cases_lt (to + place) 64)
  where
    go : (to + place < 64) ⊎ (64 ≤ to + place) → in_place f to place ≡ in_place g to place
    go (inl l) = let e : ltb (to + place) 64 ≡ true = lt-ltb _ _ l in rw e
    go (inr l) = let e : ltb (to + place) 64 ≡ false = le-ltb _ _ l in rw e (same (to + place - 64))

-- words that show what the slots show, show the values of the nets
pub shows-nets : (words : ℕ → ℕ → Level) (design : Design) (roles : List Role) (lines : List Pin) (count to : ℕ) → nets_of design ≤ count → Shows words (trace_of design roles lines) count to
    → Shows words (level_in design roles) (nets_of design) to
shows-nets words design roles lines count to fits shows slot place net small =
    shows slot place (omega (arith, net, fits)) small ∙ in_place-same (trace_of design roles lines slot) (level_in design roles slot) to place (λ tick. trace-net design roles lines slot tick net)
