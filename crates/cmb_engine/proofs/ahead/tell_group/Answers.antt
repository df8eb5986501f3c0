use Rattle.std.proofs.Common.{◌≡◌, ℕ, ◌-◌, ◌+◌, ◌%◌, ◌==◌, ◌<◌, ◌⊎◌, inl, inr, List, [], ◌∷◌, ◌++◌, length, take, refl, sym, subst, arith, Vec, Global}
use Rattle.std.proofs.lemmas.List.{take_all}
use Rattle.std.proofs.lemmas.List.Elements.{All-contains}
use Rattle.cmb_words.specs.declared.changed.Changed.{Changed}
use Rattle.cmb_words.specs.Changes.{IsStill}
use Rattle.cmb_words.specs.Word.{level_at_place}
use Rattle.cmb_engine.specs.Inner.Cells.{Cell, Flop, IsLawful, IsSteadyFrom, cell_at}
use Rattle.cmb_wave.specs.declared.level.Level.{Level}
use Rattle.cmb_engine.specs.Inner.Circuits.{IsFlopAt, IsFlopOf, IsGroup, MeetsCells, Shows}
use Rattle.cmb_engine.specs.Inner.Exports.{AddsFlop, AddsSlots, HoldsAhead, moved_on}
use Rattle.cmb_engine.specs.Inner.Words.{levels_of}
use Rattle.cmb_engine.proofs.AheadFacts.{adds-all_still, adds-one, adds-still, moved-rests, moved-steady, slot-keeps, slot-still, slot-told}
use Rattle.cmb_engine.proofs.GroupFacts.{group-flops, group-read, none-arrives}
use Rattle.cmb_engine.proofs.WindowFacts.{IsWindow}
use Rattle.cmb_engine.proofs.ahead.tell_group.Goals as goal
use Rattle.cmb_engine.proofs.ahead.tell_group.Goals.{then-not-rests+in_ok-tell_flop, else-not-rests}

-- where no sample arrives nothing changes
pub returns-then-arrival-ge64 : goal.returns-then-arrival-ge64
returns-then-arrival-ge64 c = λ cells is trace meets shows.
    adds-all_still trace (c.args.to - c.args.ticks) c.args.to c.args.group.now.flops.items c.args.told.now.items
    (λ slot among.
    slot-keeps trace (levels_of c.args.words.now) cells (length c.args.words.now) (c.args.to - c.args.ticks) c.args.ticks c.args.to (64 - c.args.ticks) meets shows
    (record { ends = omega (arith, c.requires.later); places = omega (arith, c.requires.window.0); begun = omega (arith, c.requires.later); some = omega (arith, c.requires.window.1); fits = omega (arith, c.requires.window.0) })
    c.args.group.now.clock c.args.group.now.delay c.requires.taken slot
    (All-contains (λ (s : ℕ). IsFlopOf (cell_at cells s) c.args.group.now.clock c.args.group.now.delay) c.args.group.now.flops.items slot (group-flops cells c.args.group.now is) among)
    (λ place late small arrives.
    none-arrives c.args.group.now.clock c.args.group.now.delay c.args.to (64 - c.args.ticks) c.first_arrival-arrival.result place
    (λ (p : ℕ). (p - c.first_arrival-arrival.result) % c.args.group.now.clock.period == 0) c.if-arrival-ge64.true small (c.first_arrival-arrival.ensures.arrives place late small) arrives))

pub loop-k-preserved : goal.loop-k-preserved
loop-k-preserved c = λ cells is trace meets shows.
    elim c.if-not-rests.branch [
      | then-not-rests+in_ok-tell_flop w ↦
          subst (λ (told : Vec Changed Global). AddsSlots trace (take (c.loop-k.k + 1) slots) (c.args.to - c.args.ticks) c.args.to c.args.told.now.items told.items) (sym w.told-is)
          (goes_on cells is trace meets shows w.tell_flop.new.told.items w.in_ok-tell_flop.ensures)
      | else-not-rests w ↦
          subst (λ (told : Vec Changed Global). AddsSlots trace (take (c.loop-k.k + 1) slots) (c.args.to - c.args.ticks) c.args.to c.args.told.now.items told.items) (sym w.told-is)
          (stays cells is trace meets shows (moved_on (levels_of c.args.words.now) c.args.ticks slot)
          (moved-rests (levels_of c.args.words.now) slot c.args.ticks c.first_arrival-arrival.result c.args.group.now.clock (record { net = net; delay = c.args.group.now.delay })
          (omega (arith, c.requires.window.1)) (omega (arith, c.requires.window.0)) c.requires.group.delay c.first_arrival-arrival.ensures.reach c.requires.group.pace.1 (c.rests.ensures w.if-not-rests.false))
          (moved-steady (levels_of c.args.words.now) c.args.ticks slot c.requires.window.1))
    ]
  where
    slots : List ℕ
    slots = c.args.group.now.flops.items

    within : c.loop-k.k < length c.args.group.now.flops.items
    within = omega (arith, c.loop-k-test.true, c.len-k-end.ensures)

    slot : ℕ
    slot = c.index-slot.result.now

    net : ℕ
    net = c.index.result.now

    window : IsWindow (c.args.to - c.args.ticks) c.args.ticks c.args.to (64 - c.args.ticks) 0
    window = record { ends = omega (arith, c.requires.later); places = omega (arith, c.requires.window.0); begun = omega (arith, c.requires.later); some = omega (arith, c.requires.window.1); fits = omega (arith, c.requires.window.0) }

    flop : (cells : List Cell) → IsGroup cells c.args.group.now → IsFlopAt cells c.args.group.now.clock c.args.group.now.delay slot net
    flop cells is = group-read cells c.args.group.now is c.loop-k.k slot net within c.index-slot.ensures c.index.ensures

    inside : slot < length c.args.words.now
    inside = omega (arith, c.requires.group.slots c.loop-k.k slot within, c.index-slot.ensures)

    lawful : IsLawful (length c.args.words.now) (64 - c.args.ticks) (Flop c.args.group.now.clock (record { net = net; delay = c.args.group.now.delay }))
    lawful = (c.requires.group.pace, omega (arith, c.requires.group.nets c.loop-k.k net (omega (arith, within, c.requires.group.pairs)), c.index.ensures), c.requires.group.delay)

    -- a flip-flop that keeps its level tells nothing
    stays : (cells : List Cell) → IsGroup cells c.args.group.now → (trace : ℕ → ℕ → Level) → MeetsCells trace (cell_at cells)
        → Shows (levels_of c.args.words.now) trace (length c.args.words.now) (c.args.to - c.args.ticks)
        → (held : ℕ → Level) → HoldsAhead (levels_of c.args.words.now) held c.args.ticks c.first_arrival-arrival.result slot c.args.group.now.clock (record { net = net; delay = c.args.group.now.delay })
        → IsSteadyFrom held (64 - c.args.ticks)
        → AddsSlots trace (take (c.loop-k.k + 1) slots) (c.args.to - c.args.ticks) c.args.to c.args.told.now.items c.loop-k.told.items
    stays cells is trace meets shows held holds steady =
        adds-still trace (c.args.to - c.args.ticks) c.args.to slots c.loop-k.k slot c.args.told.now.items c.loop-k.told.items within
        (subst (λ (n : ℕ). IsStill (trace n) (c.args.to - c.args.ticks) c.args.to) c.index-slot.ensures
        (slot-still trace (levels_of c.args.words.now) cells (length c.args.words.now) (c.args.to - c.args.ticks) c.args.ticks c.args.to (64 - c.args.ticks) meets shows
        window c.args.group.now.clock c.args.group.now.delay c.requires.taken slot c.first_arrival-arrival.result net (flop cells is) inside lawful
        c.first_arrival-arrival.ensures.arrives held holds steady))
        (c.loop-k.invariant cells is trace meets shows)

    -- what is told of a flip-flop that may change
    goes_on : (cells : List Cell) → IsGroup cells c.args.group.now → (trace : ℕ → ℕ → Level) → MeetsCells trace (cell_at cells)
        → Shows (levels_of c.args.words.now) trace (length c.args.words.now) (c.args.to - c.args.ticks)
        → (told : List Changed) → AddsFlop (levels_of c.args.words.now) c.args.ticks c.first_arrival-arrival.result slot c.args.group.now.clock (record { net = net; delay = c.args.group.now.delay }) c.loop-k.told.items told
        → AddsSlots trace (take (c.loop-k.k + 1) slots) (c.args.to - c.args.ticks) c.args.to c.args.told.now.items told
    goes_on cells is trace meets shows told adds = by adds.added
      where
        by : (IsSteadyFrom (level_at_place adds.word) (64 - c.args.ticks) × (told ≡ c.loop-k.told.items)) ⊎ (told ≡ c.loop-k.told.items ++ record { net = slot; word = adds.word } ∷ [])
            → AddsSlots trace (take (c.loop-k.k + 1) slots) (c.args.to - c.args.ticks) c.args.to c.args.told.now.items told
        by (inl h) =
            subst (λ (changes : List Changed). AddsSlots trace (take (c.loop-k.k + 1) slots) (c.args.to - c.args.ticks) c.args.to c.args.told.now.items changes) (sym h.1)
            (stays cells is trace meets shows (level_at_place adds.word) adds.holds h.0)
        by (inr e) =
            subst (λ (changes : List Changed). AddsSlots trace (take (c.loop-k.k + 1) slots) (c.args.to - c.args.ticks) c.args.to c.args.told.now.items changes) (sym e)
            (adds-one trace (c.args.to - c.args.ticks) c.args.to slots c.loop-k.k slot c.args.told.now.items c.loop-k.told.items
            (record { net = slot; word = adds.word }) within c.index-slot.ensures
            (slot-told trace (levels_of c.args.words.now) cells (length c.args.words.now) (c.args.to - c.args.ticks) c.args.ticks c.args.to (64 - c.args.ticks) meets shows
            window c.args.group.now.clock c.args.group.now.delay c.requires.taken slot c.first_arrival-arrival.result net (flop cells is) inside lawful
            c.first_arrival-arrival.ensures.arrives (level_at_place adds.word) adds.holds adds.word (λ place. refl) _ refl)
            (c.loop-k.invariant cells is trace meets shows))

pub returns : goal.returns
returns c = λ cells is trace meets shows.
    subst (λ (slots : List ℕ). AddsSlots trace slots (c.args.to - c.args.ticks) c.args.to c.args.told.now.items c.loop-k.told.items)
    (take_all c.loop-k.k c.args.group.now.flops.items (omega (arith, c.len-k-end.ensures, c.loop-k-test.false))) (c.loop-k.invariant cells is trace meets shows)
