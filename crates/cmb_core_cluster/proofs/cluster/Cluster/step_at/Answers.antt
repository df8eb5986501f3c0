use Rattle.std.proofs.Common.{◌≡◌, ◌≤◌, ◌∙◌, nat_le, set, true, arith, refl, sym, ap, subst}
use Rattle.std.proofs.lemmas.Bool.{le-leb}
use Rattle.std.proofs.lemmas.Result.{err_from_is_err_and}
use Rattle.std.proofs.lemmas.List.{set-get_or}
use Rattle.cmb_wave.specs.Waveform.{IsTrace, last_level}
use Rattle.cmb_wave.specs.Wave.{Wave}
use Rattle.cmb_core_cluster.specs.Clusters.{IsSameButWaves, slot_wave}
use Rattle.cmb_core_cluster.specs.Inner.Spans.{reach_at}
use Rattle.cmb_core_cluster.proofs.ClusterLemmas.{IsKept, kept_by_loan, kept_same, read_as, step_trace}
use Rattle.cmb_core_cluster.proofs.cluster.Cluster.step_at.Goals as goal

was : (c : goal.After-index_mut) → c.index_mut.result.now ≡ slot_wave c.args.self.now c.args.slot
was c = read_as c.args.self.now _ _ _ c.args.slot c.index_mut.result.now c.self.view_is c.requires c.index_mut.ensures.value

pub grow-requires-clause-later : goal.grow-requires-clause-later
grow-requires-clause-later c = omega (arith, c.in-Some.ensures.span.later, c.in-Some.ensures.span.from, ap (λ (w : Wave). w.clock) (was c))

pub grow-requires-clause-trace : goal.grow-requires-clause-trace
grow-requires-clause-trace c =
    let trace = step_trace _ c.in-Some.span.before c.in-Some.span.from c.in-Some.span.until c.changes.new.room.items (omega (arith, c.in-Some.ensures.span.later)) (rw c.new-changes.ensures.items at c.in_ok-changes.ensures) in
    let P : Wave → Type 0 = λ w. IsTrace (last_level w.kept w.changes) w.clock c.changes.new.room.items c.in-Some.span.until in
    let told : P (slot_wave c.args.self.now c.args.slot) = rw (c.in-Some.ensures.span.before, c.in-Some.ensures.span.from) at trace in
    subst P (sym (was c)) told

kept : (c : goal.In_ok-piece) → IsKept c.self.inside.horizon c.self.inside.processes.items c.self.inside.directory c.self.inside.waves.items (set c.self.inside.waves.items c.args.slot c.grow.new.self)
kept c =
    let lent : c.index_mut.result.now ≡ slot_wave c.args.self.now c.args.slot = read_as c.args.self.now _ _ _ c.args.slot c.index_mut.result.now c.self.view_is c.requires c.index_mut.ensures.value in
    let went = c.in_ok-piece.ensures.ok in
    let later : c.index_mut.result.now.clock ≤ c.grow.new.self.clock = omega (arith, c.in-Some.ensures.span.later, c.in-Some.ensures.span.from, ap (λ (w : Wave). w.clock) lent, ap (λ (w : Wave). w.clock) went) in
    kept_by_loan _ _ _ _ _ c.args.slot c.index_mut.result.now c.grow.new.self c.self.view_is c.requires c.index_mut.ensures.value (ap (λ (w : Wave). w.net) went) (ap (λ (w : Wave). w.base) went) later c.self.invariant.sound c.self.invariant.directory

pub invariant_of-self-2 : goal.invariant_of-self-2
invariant_of-self-2 c = let k = kept c in record { sound = k.sound; directory = k.listed }

-- where memory is refused, the wave comes back as it was
back : (c : goal.After-from_residual-in_err-piece) → set c.self.inside.waves.items c.args.slot c.grow.new.self ≡ c.self.inside.waves.items
back c = ap (set c.self.inside.waves.items c.args.slot) (c.in_err-piece.ensures.unchanged ∙ c.index_mut.ensures.value) ∙ set-get_or c.self.inside.waves.items c.args.slot c.index_mut.result.now

unchanged : (c : goal.After-from_residual-in_err-piece) → record { horizon = c.self.inside.horizon; processes = c.self.inside.processes.items; waves = set c.self.inside.waves.items c.args.slot c.grow.new.self } ≡ c.args.self.now
unchanged c = ap (λ ws. record { horizon = c.self.inside.horizon; processes = c.self.inside.processes.items; waves = ws }) (back c) ∙ c.self.view_is

pub invariant_of-self : goal.invariant_of-self
invariant_of-self c = rw (back c) (record { sound = c.self.invariant.sound; directory = c.self.invariant.directory })

pub returns-in_err-piece-clause-unchanged : goal.returns-in_err-piece-clause-unchanged
returns-in_err-piece-clause-unchanged c = let p = err_from_is_err_and c.from_residual-in_err-piece.result c.from_residual-in_err-piece.ensures.1 in rw p.1 (unchanged c)

pub returns-in_err-piece-clause-idle : goal.returns-in_err-piece-clause-idle
returns-in_err-piece-clause-idle c = λ done. unchanged c

pub returns-in_err-piece-clause-same : goal.returns-in_err-piece-clause-same
returns-in_err-piece-clause-same c = subst (IsSameButWaves c.args.self.now) (sym (unchanged c)) (record { horizon = refl; processes = refl; nets = refl })

pub returns-clause-same : goal.returns-clause-same
returns-clause-same c = kept_same _ _ _ _ _ _ c.self.view_is (kept c)

-- ---- where the process can't go on

stands : (c : goal.In_default) → nat_le (reach_at c.args.self.now c.args.slot) (slot_wave c.args.self.now c.args.slot).clock ≡ true
stands c = le-leb (reach_at c.args.self.now c.args.slot) (slot_wave c.args.self.now c.args.slot).clock c.in_default.ensures.span

pub returns-in_default-clause-part : goal.returns-in_default-clause-part
returns-in_default-clause-part c = rw (stands c) refl

pub returns-in_default-clause-waves : goal.returns-in_default-clause-waves
returns-in_default-clause-waves c = rw (stands c) refl

pub returns-in_default-clause-before : goal.returns-in_default-clause-before
returns-in_default-clause-before c = λ goes. absurd (omega (arith, goes, c.in_default.ensures.span))

-- ---- where it can

pub returns-in_err-changes-clause-before : goal.returns-in_err-changes-clause-before
returns-in_err-changes-clause-before c = λ goes. sym c.in-Some.ensures.span.before ∙ c.in-Some.ensures.span.told

pub returns-in_err-piece-clause-before : goal.returns-in_err-piece-clause-before
returns-in_err-piece-clause-before c = λ goes. sym c.in-Some.ensures.span.before ∙ c.in-Some.ensures.span.told

pub returns-clause-before : goal.returns-clause-before
returns-clause-before c = λ goes. sym c.in-Some.ensures.span.before ∙ c.in-Some.ensures.span.told

pub returns-clause-none : goal.returns-clause-none
returns-clause-none c = λ idle. absurd (omega (arith, idle, c.in-Some.ensures.span.from, c.in-Some.ensures.span.until, c.in-Some.ensures.span.later))

pub returns-clause-idle : goal.returns-clause-idle
returns-clause-idle c = λ idle. absurd (omega (arith, idle, c.in-Some.ensures.span.from, c.in-Some.ensures.span.until, c.in-Some.ensures.span.later))
