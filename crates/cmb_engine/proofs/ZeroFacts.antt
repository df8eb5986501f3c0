-- What nets and lines show at tick 0.
use Rattle.std.proofs.Common.{◌≡◌, ℕ, suc, ◌+◌, ◌-◌, ◌<◌, ◌≤◌, ◌⊎◌, inl, inr, true, false, List, [], ◌∷◌, Some, length, get_or, set, replicate, refl, sym, ap, subst, ◌∙◌, arith, ltb}
use Rattle.std.proofs.lemmas.Bool.{lt-ltb, cases_lt}
use Rattle.std.proofs.lemmas.List.{get_or-replicate, length-replicate, length-set}
use Rattle.std.proofs.lemmas.Option.{slice_get-get_or}
use Rattle.std.specs.Prelude.{slice_get, All}
use Rattle.std.specs.List.{list_any}
use Rattle.cmb_wave.specs.declared.level.Level.{Level}
use Rattle.cmb_wave.specs.declared.level.Level.TheVariants.{Zero, One, X}
use Rattle.cmb_wave.specs.Waveform.{same_level}
use Rattle.cmb_netlist.specs.declared.netlist.Driver.TheVariants.{Gate, Flop}
use Rattle.cmb_netlist.specs.declared.netlist.Kind.{Kind}
use Rattle.cmb_netlist.specs.declared.netlist.Kind.TheVariants.{And, Nand, Or, Nor, Xor, Xnor, Not, Buff}
use Rattle.cmb_netlist.specs.Netlist.{driver_of, IsNetlist}
use Rattle.cmb_design_model.specs.Design.{Design}
use Rattle.cmb_design_model.specs.Gate.{gate}
use Rattle.cmb_design_model.specs.Timing.{delay, initial_level}
use Rattle.cmb_design_model.specs.Value.{pin_levels, value}
use Rattle.cmb_design_model.proofs.SampleFacts.{delay-positive}
use Rattle.cmb_design_model.proofs.ValueFacts.{value-at_gate, value-at_flop}
use Rattle.cmb_words.specs.declared.word.Word.{Word}
use Rattle.cmb_engine.specs.Inner.Planes.{Planes, planes_of}
use Rattle.cmb_words.specs.Word.{level_at_place}
use Rattle.cmb_design_model.specs.Exact.{nets_of}
use Rattle.cmb_engine.specs.Inner.Circuits.{Shows}
use Rattle.cmb_engine.specs.Inner.Roles.{level_in}
use Rattle.cmb_engine.specs.Inner.Traces.{line_level, trace_of}
use Rattle.cmb_engine.specs.Inner.Windows.{in_place}
use Rattle.cmb_engine.specs.Inner.Words.{levels_of}
use Rattle.cmb_engine.specs.declared.cell.Pin.{Pin}
use Rattle.cmb_engine.specs.declared.role.Role.{Role}
use Rattle.cmb_engine.proofs.ArrivalFacts.{flop_level-start}
use Rattle.cmb_engine.proofs.WordFacts.{level_of_planes, levels_of-get_or, written-other, written-same}
use Rattle.cmb_engine.proofs.PlanFacts.{wired-gate}
use Rattle.cmb_engine.proofs.SlotFacts.{in_place-same, trace-behind, trace-net}

-- ---- gates of which all pins are x

all_x : List ℕ → List Level
all_x [] = []
all_x (operand ∷ operands) = X ∷ all_x operands

any-none : (level : Level) (operands : List ℕ) → same_level level X ≡ false → list_any (same_level level) (all_x operands) ≡ false
unfolding all_x
any-none level [] other = refl
any-none level (operand ∷ operands) other = rw (other, any-none level operands other) refl

gate-x : (kind : Kind) (operand : ℕ) (operands : List ℕ) → gate kind (all_x (operand ∷ operands)) ≡ X
unfolding all_x
gate-x And operand operands = rw (any-none Zero operands refl) refl
gate-x Nand operand operands = rw (any-none Zero operands refl) refl
gate-x Or operand operands = rw (any-none One operands refl) refl
gate-x Nor operand operands = rw (any-none One operands refl) refl
gate-x Xor operand operands = refl
gate-x Xnor operand operands = refl
gate-x Not operand operands = refl
gate-x Buff operand operands = refl

pins-x : (design : Design) (level : ℕ → ℕ → Level) (net pin : ℕ) (operands : List ℕ) → pin_levels design level net 0 pin operands ≡ all_x operands
unfolding all_x
pins-x design level net pin [] = refl
pins-x design level net pin (operand ∷ operands) =
    let early : ltb 0 (delay design net pin) ≡ true = lt-ltb _ _ (delay-positive design net pin) in
    rw (early, pins-x design level net (suc pin) operands) refl

-- a gate is x at tick 0
pub gate-starts : (design : Design) (net : ℕ) (kind : Kind) (operands : List ℕ) → IsNetlist design.netlist → driver_of design.netlist net ≡ Gate kind operands → value design net 0 ≡ X
gate-starts design net kind operands is e =
    value-at_gate design net 0 kind operands e ∙ ap (gate kind) (pins-x design (value design) net 1 operands) ∙ some operands (wired-gate design.netlist net kind operands is e).0
  where
    some : (operands : List ℕ) → 1 ≤ length operands → gate kind (all_x operands) ≡ X
    some [] none = absurd (omega (arith, none))
    some (operand ∷ operands) more = gate-x kind operand operands

pub flop-starts : (design : Design) (net source : ℕ) → driver_of design.netlist net ≡ Flop source → value design net 0 ≡ initial_level design net
flop-starts design net source e = value-at_flop design net 0 source e ∙ flop_level-start design (value design source) net

-- ---- lines

-- below its delay a line is x
pub line-early : (level : ℕ → ℕ → Level) (line : Pin) (tick : ℕ) → tick < line.delay → line_level level (Some line) tick ≡ X
line-early level line tick early = let here : ltb tick line.delay ≡ true = lt-ltb _ _ early in rw here refl

pub lines-start : (design : Design) (roles : List Role) (lines : List Pin) (number : ℕ) → number < length lines → All (λ line. (line.net < nets_of design) × (1 ≤ line.delay)) lines
    → trace_of design roles lines (nets_of design + number) 0 ≡ X
lines-start design roles lines number inside lawful =
    let none : Pin = record { net = 0; delay = 0 } in
    let place : nets_of design + number - nets_of design ≡ number = omega arith in
    let found : slice_get lines number ≡ Some (get_or lines number none) = slice_get-get_or lines number none inside in
    trace-behind design roles lines (nets_of design + number) 0 (omega arith) ∙ ap (λ k. line_level (level_in design roles) (slice_get lines k) 0) place
    ∙ ap (λ line. line_level (level_in design roles) line 0) found ∙ line-early (level_in design roles) (get_or lines number none) 0 (lawful number none inside).1

-- ---- words

pub start-shows : (trace : ℕ → Level) (word : ℕ → Level) → ((place : ℕ) → place < 63 → word place ≡ X) → word 63 ≡ trace 0
    → (place : ℕ) → place < 64 → word place ≡ in_place trace 1 place
start-shows trace word before now place small = go (cases_lt place 63)
  where
    go : (place < 63) ⊎ (63 ≤ place) → word place ≡ in_place trace 1 place
    go (inl l) = let early : ltb (1 + place) 64 ≡ true = lt-ltb _ _ (omega arith) in rw early (before place l)
    go (inr l) = let e : place ≡ 63 = omega arith in rw e now

-- the words of the first so many nets show their levels at tick 0, and all others x
pub record AreStarted (design : Design) (roles : List Role) (upto : ℕ) (words : List Planes) : Type 0 where
  pub begun : (net place : ℕ) → net < upto → place < 64 → levels_of words net place ≡ in_place (level_in design roles net) 1 place
  pub others : (slot : ℕ) (trace : ℕ → Level) → upto ≤ slot → slot < length words → trace 0 ≡ X → (place : ℕ) → place < 64 → levels_of words slot place ≡ in_place trace 1 place

-- a word shows each trace that has its level at tick 0
abbrev Starts : Level → Word → Type 0
Starts level word = (trace : ℕ → Level) → trace 0 ≡ level → (place : ℕ) → place < 64 → level_at_place word place ≡ in_place trace 1 place

pub started-none : (design : Design) (roles : List Role) (count : ℕ) (word : Word) (words : List Planes) → words ≡ replicate count (planes_of word) → Starts X word → AreStarted design roles 0 words
started-none design roles count word words is shows = record {
  begun = λ net place below. absurd (omega arith);
  others = λ slot trace late inside zero place small.
      let within : slot < count = omega (arith, inside, ap length is, length-replicate count (planes_of word)) in
      levels_of-get_or words slot (planes_of word) place inside
      ∙ ap (λ (w : Planes). level_of_planes w place) (ap (λ (ws : List Planes). get_or ws slot (planes_of word)) is ∙ get_or-replicate count slot (planes_of word) (planes_of word) within)
      ∙ shows trace zero place small;
}

pub started-more : (design : Design) (roles : List Role) (net : ℕ) (word : Word) (old new : List Planes) → net < length old → new ≡ set old net (planes_of word) → Starts (level_in design roles net 0) word
    → AreStarted design roles net old → AreStarted design roles (net + 1) new
started-more design roles net word old new inside is shows so_far = record {
  begun = λ other place below small. go other place below small (cases_lt other net);
  others = λ slot trace late within zero place small.
      written-other old new net slot word place is (λ e. absurd (omega (arith, e, late)))
      ∙ so_far.others slot trace (omega (arith, late)) (omega (arith, within, ap length is, length-set old net (planes_of word))) zero place small;
}
  where
    go : (other place : ℕ) → other < net + 1 → place < 64 → (other < net) ⊎ (net ≤ other) → levels_of new other place ≡ in_place (level_in design roles other) 1 place
    go other place below small (inl l) = written-other old new net other word place is (λ e. absurd (omega (arith, e, l))) ∙ so_far.begun other place l small
    go other place below small (inr l) =
        let e : net ≡ other = omega (arith, l, below) in
        subst (λ (n : ℕ). levels_of new n place ≡ in_place (level_in design roles n) 1 place) e (written-same old new net word place is inside ∙ shows (level_in design roles net) refl place small)

-- the words of all nets and lines show what these do
pub started-shows : (design : Design) (roles : List Role) (lines : List Pin) (words : List Planes) → All (λ line. (line.net < nets_of design) × (1 ≤ line.delay)) lines
    → length words ≡ nets_of design + length lines → AreStarted design roles (nets_of design) words → Shows (levels_of words) (trace_of design roles lines) (nets_of design + length lines) 1
started-shows design roles lines words lawful len started slot place inside small = go (cases_lt slot (nets_of design))
  where
    go : (slot < nets_of design) ⊎ (nets_of design ≤ slot) → levels_of words slot place ≡ in_place (trace_of design roles lines slot) 1 place
    go (inl l) =
        started.begun slot place l small
        ∙ sym (in_place-same (trace_of design roles lines slot) (level_in design roles slot) 1 place (λ tick. trace-net design roles lines slot tick l))
    go (inr l) =
        let at : nets_of design + (slot - nets_of design) ≡ slot = omega (arith, l) in
        started.others slot (trace_of design roles lines slot) l (omega (arith, inside, len))
        (ap (λ (n : ℕ). trace_of design roles lines n 0) (sym at) ∙ lines-start design roles lines (slot - nets_of design) (omega (arith, inside, l)) lawful) place small
