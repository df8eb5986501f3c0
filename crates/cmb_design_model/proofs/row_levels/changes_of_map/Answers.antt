use Rattle.std.proofs.Common.{◌≡◌, ◌≢◌, ◌∷◌, ◌++◌, ◌∙◌, [], List, sym, ap, arith}
use Rattle.std.proofs.lemmas.List.{append-nil}
use Rattle.cmb_wave.specs.declared.level.Level.TheVariants as level
use Rattle.cmb_wave.proofs.Lists.{differs_of_test, test_of_same}
use Rattle.cmb_design_model.proofs.LevelFacts.{push-rest, keep, keep-kept, keep-late, keep-same, map_changes}
use Rattle.cmb_design_model.specs.Inner.RowLevels.{Row}
use Rattle.cmb_design_model.proofs.row_levels.changes_of_map.Goals as goal
use Rattle.cmb_design_model.proofs.row_levels.changes_of_map.Goals.{else-tick-lt-ALL_TICKS-via-then-tick-lt-ALL_TICKS+else-not-is_same, else-tick-lt-ALL_TICKS-via-else-tick-lt-ALL_TICKS}

pub loop-tick-preserved-then-not-is_same : goal.loop-tick-preserved-then-not-is_same
loop-tick-preserved-then-not-is_same c =
    let rest : List Row = c.next.new.self in
    let row : Row = (c.in-Some.tick.now, c.in-Some.level.now) in
    let b = c.loop-tick.before in
    let old = c.loop-tick.list.items in
    let s : c.loop-tick.tick-iterator ≡ row ∷ rest = c.in-Some.ensures.steps in
    let d : row.1 ≢ b = differs_of_test row.1 b (sym c.is_same.ensures ∙ c.if-not-is_same.true) in
    let k = keep-kept 4294967296 b row rest (omega arith) d in
    push-rest old c.push.new.self.items (record { tick = row.0; level = row.1 } ∷ []) (keep 4294967296 row.1 rest) _ c.in_ok-push.ensures.items
    (ap (λ t. old ++ t) (sym k ∙ ap (keep 4294967296 b) (sym s)) ∙ c.loop-tick.invariant)

pub loop-tick-preserved : goal.loop-tick-preserved
loop-tick-preserved c =
    let rest : List Row = c.next.new.self in
    let row : Row = (c.in-Some.tick.now, c.in-Some.level.now) in
    let b = c.loop-tick.before in
    let old = c.loop-tick.list.items in
    let s : c.loop-tick.tick-iterator ≡ row ∷ rest = c.in-Some.ensures.steps in
    let k : keep 4294967296 b (row ∷ rest) ≡ keep 4294967296 b rest = elim c.else-tick-lt-ALL_TICKS.branch [
      | else-tick-lt-ALL_TICKS-via-then-tick-lt-ALL_TICKS+else-not-is_same w ↦ keep-same 4294967296 b row rest (test_of_same row.1 b (sym w.is_same.ensures ∙ w.if-not-is_same.false))
      | else-tick-lt-ALL_TICKS-via-else-tick-lt-ALL_TICKS w ↦ keep-late 4294967296 b row rest (omega arith)
    ] in
    ap (λ t. old ++ t) (sym k ∙ ap (keep 4294967296 b) (sym s)) ∙ c.loop-tick.invariant

pub returns : goal.returns
unfolding keep
returns c =
    let all : c.loop-tick.list.items ++ keep 4294967296 c.loop-tick.before [] ≡ keep 4294967296 level.X c.args.rows.now.entries = rw c.in-None.ensures.steps.0 at c.loop-tick.invariant in
    let e = c.into_iter-tick-iterator.ensures.into_iter_gives in
    sym (append-nil c.loop-tick.list.items) ∙ all ∙ map_changes 4294967296 c.args.rows.now e.5
