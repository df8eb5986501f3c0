use Rattle.std.proofs.Common.{◌≡◌, ◌∙◌, ◌++◌, ℕ, List, subst}
use Rattle.std.specs.Prelude.{OnOk}
use Rattle.cmb_count.specs.Texts.{longest_row, own_words}
use Rattle.cmb_count.proofs.text.push_own.Goals as goal

pub returns : goal.returns
returns c =
    let words : c.as_str.result.now ≡ own_words c.args.clock = c.as_str.ensures.value ∙ c.in_ok-what.ensures.ok in
    let Told : List ℕ → Type 0 = λ w. OnOk c.push_longest.result (c.push_longest.new.text.items ≡ c.args.text.now.items ++ longest_row c.args.netlist.now w c.args.longest) in
    subst Told words c.push_longest.ensures
