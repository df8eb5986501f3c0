-- Where windows end.
use Rattle.std.proofs.Common.{◌≡◌, ℕ, zero, suc, ◌+◌, ◌-◌, ◌*◌, ◌/◌, ◌%◌, ◌<◌, ◌≤◌, ◌⊎◌, inl, inr, Bool, true, false, List, [], ◌∷◌, ◌++◌, length, get_or, min, sym, ap, subst, ◌∙◌, arith, ltb, mod-lt, div-add-mod'}
use Rattle.std.specs.Prelude.{All, Contains}
use Rattle.std.proofs.lemmas.Nat.{mul-le}
use Rattle.std.proofs.lemmas.Bool.{lt-ltb, le-ltb, cases_eq, cases_lt}
use Rattle.cmb_design_model.specs.Design.{Design}
use Rattle.cmb_design_model.specs.Timing.{clock_of, delay}
use Rattle.cmb_design_model.proofs.AskFacts.{clock_of-positive}
use Rattle.cmb_engine.specs.Crossings.{AreWithinLookahead, IsCrossing}
use Rattle.cmb_engine.specs.Inner.Ends.{IsPaced, pace_of, AreEnding}
use Rattle.cmb_engine.specs.Windows.{HaveTicks, arrival_from, end_by}
use Rattle.cmb_engine.specs.declared.windows.Pace.{Pace}
use Rattle.cmb_engine.proofs.ArrivalFacts.{arrives_parts}

-- one pace more
pub end_by-push : (paces : List Pace) (pace : Pace) (clock last : ℕ) → end_by (paces ++ pace ∷ []) clock last ≡ min (end_by paces clock last) (arrival_from pace (clock + pace.lead))
end_by-push [] pace clock last = omega arith
end_by-push (first ∷ paces) pace clock last =
    ap (λ (n : ℕ). min (arrival_from first (clock + first.lead)) n) (end_by-push paces pace clock last)
    ∙ assoc (arrival_from first (clock + first.lead)) (end_by paces clock last) (arrival_from pace (clock + pace.lead))
  where
    assoc : (a b c : ℕ) → min a (min b c) ≡ min (min a b) c
    assoc a b c = omega arith

-- a window ends at the latest at the first arrival of each pace
pub end_by-least : (paces : List Pace) (pace : Pace) (clock last : ℕ) → Contains paces pace → end_by paces clock last ≤ arrival_from pace (clock + pace.lead)
end_by-least [] pace clock last among = absurd (omega (arith, among.1))
end_by-least (first ∷ paces) pace clock last among = go (end_by-least paces pace clock last) among.0 among.1 among.2
  where
    go : (Contains paces pace → end_by paces clock last ≤ arrival_from pace (clock + pace.lead)) → (k : ℕ) → k < length (first ∷ paces) → get_or (first ∷ paces) k pace ≡ pace
        → min (arrival_from first (clock + first.lead)) (end_by paces clock last) ≤ arrival_from pace (clock + pace.lead)
    go rest zero l is = rw is (omega arith)
    go rest (suc k) l is = omega (arith, rest (k, omega arith, is))

-- the first arrival from a tick on isn't behind any other
pub arrival_from-least : (pace : Pace) (from tick : ℕ) → 1 ≤ pace.period → pace.first ≤ tick → (tick - pace.first) % pace.period ≡ 0 → from ≤ tick → arrival_from pace from ≤ tick
arrival_from-least pace from tick positive late whole later = go (cases_lt pace.first from)
  where
    turns : tick ≡ pace.first + (tick - pace.first) / pace.period * pace.period
    turns = omega (arith, div-add-mod' (tick - pace.first) pace.period)

    ahead : pace.first < from → from + pace.period - 1 - (from - 1 - pace.first) % pace.period ≤ tick
    ahead behind = more (cases_lt ((from - 1 - pace.first) / pace.period) ((tick - pace.first) / pace.period))
      where
        split : from - 1 - pace.first ≡ (from - 1 - pace.first) / pace.period * pace.period + (from - 1 - pace.first) % pace.period
        split = omega (arith, div-add-mod' (from - 1 - pace.first) pace.period)

        more : ((from - 1 - pace.first) / pace.period < (tick - pace.first) / pace.period) ⊎ ((tick - pace.first) / pace.period ≤ (from - 1 - pace.first) / pace.period)
            → from + pace.period - 1 - (from - 1 - pace.first) % pace.period ≤ tick
        more (inl l) =
            let next : ((from - 1 - pace.first) / pace.period + 1) * pace.period ≤ (tick - pace.first) / pace.period * pace.period = mul-le _ pace.period _ pace.period (omega arith) (omega arith) in
            omega (arith, split, turns, next, mod-lt (from - 1 - pace.first) positive)
        more (inr l) =
            let less : (tick - pace.first) / pace.period * pace.period ≤ (from - 1 - pace.first) / pace.period * pace.period = mul-le _ pace.period _ pace.period l (omega arith) in
            absurd (omega (arith, split, turns, less))

    go : (pace.first < from) ⊎ (from ≤ pace.first) → arrival_from pace from ≤ tick
    go (inl l) = let e : ltb pace.first from ≡ true = lt-ltb _ _ l in rw e (ahead l)
    go (inr l) = let e : ltb pace.first from ≡ false = le-ltb _ _ l in rw e late

-- and none ends where it begins
arrival_from-later : (pace : Pace) (tick : ℕ) → 1 ≤ pace.period → tick ≤ arrival_from pace tick
arrival_from-later pace tick positive = go (cases_lt pace.first tick)
  where
    go : (pace.first < tick) ⊎ (tick ≤ pace.first) → tick ≤ arrival_from pace tick
    go (inl l) = let e : ltb pace.first tick ≡ true = lt-ltb _ _ l in rw e (omega (arith, mod-lt (tick - 1 - pace.first) positive))
    go (inr l) = let e : ltb pace.first tick ≡ false = le-ltb _ _ l in rw e l

end_by-within : (paces : List Pace) (clock last : ℕ) → end_by paces clock last ≤ last
end_by-within [] clock last = omega arith
end_by-within (pace ∷ paces) clock last = omega (arith, end_by-within paces clock last)

end_by-later : (paces : List Pace) (clock last : ℕ) → All IsPaced paces → clock < last → clock < end_by paces clock last
end_by-later [] clock last paced early = early
end_by-later (pace ∷ paces) clock last paced early =
    let is : IsPaced pace = paced 0 pace (omega arith) in
    omega (arith, is.3, arrival_from-later pace (clock + pace.lead) is.1, end_by-later paces clock last (λ k d h. paced (suc k) d (omega (arith, h))) early)

pub have-ticks : (width horizon : ℕ) (paces : List Pace) → 1 ≤ width → All IsPaced paces → HaveTicks (record { width = width; horizon = horizon; paces = paces })
have-ticks width horizon paces some paced clock early =
    (end_by-later paces clock (min (clock + width) horizon) paced (omega (arith, some, early)), omega (arith, end_by-within paces clock (min (clock + width) horizon)))

-- so windows lie in the lookahead of flip-flops that have their paces among these
pub ending-ahead : (design : Design) (crossing : List Bool) (width horizon : ℕ) (paces : List Pace) → AreEnding design crossing width paces
    → AreWithinLookahead design crossing (record { width = width; horizon = horizon; paces = paces })
ending-ahead design crossing width horizon paces ending net clock is below tick late early arrives = go (cases_lt tick (clock + delay design net 1))
  where
    go : (tick < clock + delay design net 1) ⊎ (clock + delay design net 1 ≤ tick) → tick < clock + delay design net 1
    go (inl l) = l
    go (inr l) =
        let parts = arrives_parts (clock_of design net) (delay design net 1) tick arrives in
        let arrival = arrival_from-least (pace_of design net) (clock + delay design net 1) tick (clock_of-positive design net) parts.0 parts.1 l in
        absurd (omega (arith, early, end_by-least paces (pace_of design net) clock (min (clock + width) horizon) (ending net is).0, arrival))

-- one net more has its pace among them
pub ending-more : (design : Design) (crossing : List Bool) (width upto : ℕ) (old new : List Pace) → ((pace : Pace) → Contains old pace → Contains new pace)
    → (IsCrossing design crossing upto → Contains new (pace_of design upto) × (delay design upto 1 < width))
    → ((net : ℕ) → net < upto → IsCrossing design crossing net → Contains old (pace_of design net) × (delay design net 1 < width))
    → (net : ℕ) → net < upto + 1 → IsCrossing design crossing net → Contains new (pace_of design net) × (delay design net 1 < width)
ending-more design crossing width upto old new kept here so_far net small is = go (cases_eq net upto)
  where
    go : (net ≡ upto) ⊎ (net ≡ upto → ⊥) → Contains new (pace_of design net) × (delay design net 1 < width)
    go (inl e) =
        subst (λ (n : ℕ). Contains new (pace_of design n) × (delay design n 1 < width)) (sym e)
        (here (subst (λ (n : ℕ). IsCrossing design crossing n) e is))
    go (inr n) = let before = so_far net (omega arith) is in (kept (pace_of design net) before.0, before.1)
