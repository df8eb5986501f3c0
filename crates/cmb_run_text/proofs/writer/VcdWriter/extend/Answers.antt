use Rattle.std.proofs.Common.{◌≡◌, ◌≤◌, ◌∙◌, ◌++◌, Some, ap, arith}
use Rattle.std.specs.Prelude.{unwrap_or}
use Rattle.cmb_design_model.specs.Design.{Design}
use Rattle.cmb_run_text.specs.Collector.{collected_level, least}
use Rattle.cmb_run_text.specs.Writer.{Writer, done_text}
use Rattle.cmb_run_text.proofs.CollectorFacts.{least_clock_bound}
use Rattle.cmb_run_text.proofs.PartFacts.{exact_more, written_part}
use Rattle.cmb_run_text.proofs.writer.VcdWriter.extend.Goals as goal

text_is : (c : goal.After-self-1) → done_text c.args.self.now.design (collected_level c.args.collector.now.waves) (Some (least c.args.collector.now)) ≡ done_text c.args.self.now.design (collected_level c.args.collector.now.waves) c.args.self.now.done ++ c.push_part.new.out.items
text_is c =
    let design = c.args.self.now.design in
    let collector = c.args.collector.now in
    let same : c.self.inside.design.now ≡ design = ap (λ (w : Writer). w.design) c.self.view_is in
    let horizon : c.horizon-horizon.result ≡ design.horizon = c.horizon-horizon.ensures.value ∙ ap (λ (d : Design). d.horizon) same in
    let below : least collector ≤ design.horizon = omega (arith, least_clock_bound collector.horizon collector.waves, c.requires.opened.horizon) in
    written_part design c.horizon-horizon.result c.unwrap_or-from.result c.least-least.result (least collector) collector.waves c.waves.result.now c.args.self.now.done c.in_ok-text.text.items c.push_part.new.out.items
    horizon (c.unwrap_or-from.ensures ∙ ap (λ (w : Writer). unwrap_or w.done 0) c.self.view_is) c.least-least.ensures c.waves.ensures.waves c.requires.opened.nets (omega (arith, c.horizon-horizon.ensures.small)) c.requires.later below
    c.in_ok-text.ensures c.in_ok-push_part.ensures

pub returns-clause-text : goal.returns-clause-text
returns-clause-text c = text_is c

pub returns-clause-exact : goal.returns-clause-exact
returns-clause-exact c exact =
    let collector = c.args.collector.now in
    let below : least collector ≤ c.args.self.now.design.horizon = omega (arith, least_clock_bound collector.horizon collector.waves, c.requires.opened.horizon) in
    exact_more c.args.self.now.design collector c.args.self.now.done c.push_part.new.out.items exact c.requires.later below (text_is c)
