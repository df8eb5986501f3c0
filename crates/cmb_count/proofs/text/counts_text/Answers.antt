use Rattle.std.proofs.Common.{◌∙◌, ◌++◌, ℕ, List, ap}
use Rattle.cmb_netlist.specs.Netlist.{Netlist}
use Rattle.cmb_count.specs.Texts.{counts_rows}
use Rattle.cmb_count.proofs.text.counts_text.Goals as goal

pub returns : goal.returns
returns c = record {
  findings = c.in_ok-findings.findings;
  found = c.in_ok-findings.ensures;
  rows = c.in_ok-push_counts.ensures
      ∙ ap (λ (l : List ℕ). l ++ counts_rows c.netlist.result.now c.args.counts.now c.in_ok-findings.findings) c.new-text.ensures.items
      ∙ ap (λ (n : Netlist). counts_rows n c.args.counts.now c.in_ok-findings.findings) c.netlist.ensures;
}
