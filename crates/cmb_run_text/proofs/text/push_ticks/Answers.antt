use Rattle.std.proofs.Common.{◌≡◌, ◌∙◌, ◌++◌, ap, sym, arith, length}
use Rattle.std.proofs.lemmas.List.{append-nil}
use Rattle.std.proofs.lemmas.Result.{on_ok_weaker}
use Rattle.cmb_run_text.specs.Collector.{collected_level}
use Rattle.cmb_run_text.specs.Between.{ticks_between}
use Rattle.cmb_run_text.specs.Vcd.{tick_text}
use Rattle.cmb_run_text.proofs.LineFacts.{joined}
use Rattle.cmb_run_text.proofs.PartFacts.{ticks_between-first, ticks_between-none}
use Rattle.cmb_run_text.proofs.text.push_ticks.Goals as goal

pub returns-then-from-to : goal.returns-then-from-to
returns-then-from-to c =
    let waves = c.args.waves.now in
    sym (append-nil c.args.out.now.items) ∙ ap (λ t. c.args.out.now.items ++ t) (sym (ticks_between-none (length waves) (collected_level waves) c.args.from c.args.to c.if-from-to.true))

pub returns : goal.returns
returns c =
    let waves = c.args.waves.now in
    let nets = length waves in
    let level = collected_level waves in
    let to = c.args.to in
    let start : c.args.from ≡ 0 = c.if-from-ne0.false in
    on_ok_weaker _ (λ last.
    joined c.args.out.now.items c.push_first.new.out.items c.push_later-2.new.out.items (tick_text nets level 0) (ticks_between nets level 1 to) c.in_ok-push_first.ensures last
    ∙ ap (λ t. c.args.out.now.items ++ t) (sym (ticks_between-first nets level to (omega arith)) ∙ ap (λ from. ticks_between nets level from to) (sym start))) c.push_later-2.ensures
