-- The text depends on the levels below the horizon alone, grows by its end, and says nothing at ticks without a change.
use Rattle.std.proofs.Common.{◌≡◌, ℕ, zero, suc, ◌+◌, ◌-◌, ◌<◌, ◌≤◌, true, List, [], ◌++◌, length, refl, ap, sym, arith, cond, ltb, append_assoc}
use Rattle.std.proofs.lemmas.List.{append-nil}
use Rattle.std.proofs.lemmas.Bool.{lt-ltb}
use Rattle.cmb_wave.specs.declared.level.Level.{Level}
use Rattle.cmb_wave.specs.Waveform.{same_level}
use Rattle.cmb_wave.proofs.Lists.{same_level-same}
use Rattle.cmb_run_text.specs.Vcd.{tick_line, level_lines, change_lines, under_tick, tick_text, ticks_text, part_text}

-- ---- levels that agree give one text

module _ (f g : ℕ → ℕ → Level) (total from upto : ℕ) (agree : (net tick : ℕ) → net < total → from ≤ suc tick → tick < upto → f net tick ≡ g net tick) where
  level_lines-agree : (tick : ℕ) → from ≤ suc tick → tick < upto → (net nets : ℕ) → net + nets ≤ total → level_lines f tick net nets ≡ level_lines g tick net nets
  unfolding level_lines
  level_lines-agree tick l h net zero within = refl
  level_lines-agree tick l h net (suc nets) within =
      let here : f net tick ≡ g net tick = agree net tick (omega arith) l h in
      rw (here, level_lines-agree tick l h (suc net) nets (omega arith))

  change_lines-agree : (tick : ℕ) → from ≤ suc tick → suc tick < upto → (net nets : ℕ) → net + nets ≤ total → change_lines f tick net nets ≡ change_lines g tick net nets
  unfolding change_lines
  change_lines-agree tick l h net zero within = refl
  change_lines-agree tick l h net (suc nets) within =
      let before : f net tick ≡ g net tick = agree net tick (omega arith) l (omega arith) in
      let after : f net (suc tick) ≡ g net (suc tick) = agree net (suc tick) (omega arith) (omega arith) h in
      rw (before, after, change_lines-agree tick l h (suc net) nets (omega arith))

  -- the lines of a tick depend on the levels at it and at the one before
  pub tick_text-agree : (tick : ℕ) → from ≤ tick → tick < upto → tick_text total f tick ≡ tick_text total g tick
  unfolding tick_text
  tick_text-agree zero l h = rw (level_lines-agree 0 (omega arith) h 0 total (omega arith))
  tick_text-agree (suc tick) l h = ap (under_tick (suc tick)) (change_lines-agree tick l h 0 total (omega arith))

ticks_text-agree : (f g : ℕ → ℕ → Level) (total upto : ℕ) → ((net tick : ℕ) → net < total → tick < upto → f net tick ≡ g net tick) → (tick : ℕ) → tick ≤ upto → ticks_text total f tick ≡ ticks_text total g tick
unfolding ticks_text
ticks_text-agree f g total upto agree zero h = refl
ticks_text-agree f g total upto agree (suc tick) h = rw (ticks_text-agree f g total upto agree tick (omega arith), tick_text-agree f g total 0 upto (λ net t n l b. agree net t n b) tick (omega arith) h)

pub part_text-agree : (names : List (List ℕ)) (horizon : ℕ) (f g : ℕ → ℕ → Level) (upto : ℕ) → ((net tick : ℕ) → net < length names → tick < upto → f net tick ≡ g net tick) → part_text names horizon f upto ≡ part_text names horizon g upto
unfolding part_text
part_text-agree names horizon f g upto agree = rw (ticks_text-agree f g (length names) upto agree upto (omega arith))

-- ---- parts of a text

ticks_text-grows : (nets : ℕ) (level : ℕ → ℕ → Level) (from more : ℕ) → (rest : List ℕ) × (ticks_text nets level (from + more) ≡ ticks_text nets level from ++ rest)
unfolding ticks_text
ticks_text-grows nets level from zero =
    let same : from + zero ≡ from = omega arith in
    ([], rw same (sym (append-nil (ticks_text nets level from))))
ticks_text-grows nets level from (suc more) = go (ticks_text-grows nets level from more)
  where
    go : ((rest : List ℕ) × (ticks_text nets level (from + more) ≡ ticks_text nets level from ++ rest)) → (rest : List ℕ) × (ticks_text nets level (from + suc more) ≡ ticks_text nets level from ++ rest)
    go (rest, e) =
        let same : from + suc more ≡ suc (from + more) = omega arith in
        (rest ++ tick_text nets level (from + more), rw (same, e) (append_assoc (ticks_text nets level from) rest (tick_text nets level (from + more))))

-- each part is a beginning of each later part
pub part_text-grows : (names : List (List ℕ)) (horizon : ℕ) (level : ℕ → ℕ → Level) (from to : ℕ) → from ≤ to → from < horizon → (rest : List ℕ) × (part_text names horizon level to ≡ part_text names horizon level from ++ rest)
unfolding part_text
part_text-grows names horizon level from to later below = go (ticks_text-grows (length names) level from (to - from))
  where
    end : List ℕ
    end = cond (ltb to horizon) [] (tick_line horizon)

    go : ((rest : List ℕ) × (ticks_text (length names) level (from + (to - from)) ≡ ticks_text (length names) level from ++ rest)) → (rest : List ℕ) × (part_text names horizon level to ≡ part_text names horizon level from ++ rest)
    go (rest, e) =
        let same : from + (to - from) ≡ to = omega arith in
        let open_end : ltb from horizon ≡ true = lt-ltb from horizon below in
        let grown : ticks_text (length names) level to ≡ ticks_text (length names) level from ++ rest = rw same at e in
        (rest ++ end, rw (open_end, grown) (simp (append_assoc, append-nil)))

-- ---- ticks without a change

change_lines-none : (level : ℕ → ℕ → Level) (tick : ℕ) (net nets : ℕ) → ((m : ℕ) → net ≤ m → m < net + nets → level m tick ≡ level m (suc tick)) → change_lines level tick net nets ≡ []
unfolding change_lines
change_lines-none level tick net zero still = refl
change_lines-none level tick net (suc nets) still =
    let here : same_level (level net tick) (level net (suc tick)) ≡ true = same_level-same _ _ (still net (omega arith) (omega arith)) in
    rw here (change_lines-none level tick (suc net) nets (λ m a b. still m (omega arith) (omega arith)))

-- where no net changes at the ticks of a span after tick 0, the text says nothing of them
pub ticks_text-still : (nets : ℕ) (level : ℕ → ℕ → Level) (from more : ℕ) → 1 ≤ from → ((net tick : ℕ) → net < nets → from ≤ suc tick → suc tick < from + more → level net tick ≡ level net (suc tick)) → ticks_text nets level (from + more) ≡ ticks_text nets level from
unfolding ticks_text tick_text
ticks_text-still nets level from zero late still = let same : from + zero ≡ from = omega arith in rw same
ticks_text-still nets level from (suc more) late still = go (from + more) refl (ticks_text-still nets level from more late (λ net tick n a b. still net tick n a (omega arith)))
  where
    go : (last : ℕ) → from + more ≡ last → ticks_text nets level (from + more) ≡ ticks_text nets level from → ticks_text nets level (from + suc more) ≡ ticks_text nets level from
    go zero e rest = absurd (omega arith)
    go (suc tick) e rest =
        let same : from + suc more ≡ suc (suc tick) = omega arith in
        let none : change_lines level tick 0 nets ≡ [] = change_lines-none level tick 0 nets (λ m a b. still m tick (omega arith) (omega arith) (omega arith)) in
        let before : ticks_text nets level (suc tick) ≡ ticks_text nets level from = rw e at rest in
        rw (same, before, none) (append-nil (ticks_text nets level from))
