use Rattle.std.proofs.Common.{◌≡◌, ◌<◌, ℕ, length, [], map, get_or, arith, sym, ◌∙◌, ap}
use Rattle.std.proofs.lemmas.List.{get_or_read, length-map}
use Rattle.cmb_core_cluster.specs.declared.process.ProcessPin.{ProcessPin}
use Rattle.cmb_core_cluster.specs.declared.process.ProcessRule.TheVariants.{Given}
use Rattle.cmb_core_cluster.specs.Rows.{Process, is_given}
use Rattle.cmb_core_cluster.specs.Directory.{given_at}
use Rattle.cmb_core_cluster.proofs.ReaderFacts.{listed_more, listed_put, listed_still}
use Rattle.cmb_core_cluster.proofs.readers.push_readers.Goals as goal
use Rattle.cmb_core_cluster.proofs.readers.push_readers.Goals.{then-is_given+in_ok-push_reader, else-is_given}

pub loop-operand-preserved : goal.loop-operand-preserved
loop-operand-preserved c = λ place h.
    let none : ProcessPin = record { net = 0; slot = 0; delay = 0 } in
    let no_process : Process = record { rule = Given; operands = []; stimulus = [] } in
    let i : ℕ = c.loop-operand.operand-index in
    let o : ProcessPin = get_or c.args.operands.now i none in
    let here : i < length c.args.operands.now = omega arith in
    let there : o.slot < length c.args.nodes.now = c.requires.within i none here in
    let read : c.index-nodes-place.result ≡ get_or c.args.nodes.now o.slot no_process = get_or_read _ _ _ there c.index-nodes-place.is no_process in
    let test : c.is_given.result ≡ given_at c.args.nodes.now o.slot = c.is_given.ensures ∙ ap (λ p. is_given p.rule) read in
    elim c.if-is_given.branch [
      | then-is_given+in_ok-push_reader w ↦
          let long : o.slot < length (map (λ list. list.items) c.loop-operand.readers) = omega (arith, there, length-map c.loop-operand.readers (λ list. list.items), c.loop-operand.auto.readers, c.requires.paired) in
          listed_more c.args.nodes.now (map (λ list. list.items) c.loop-operand.readers) (map (λ list. list.items) c.args.readers.now) place c.args.slot i c.args.operands.now none _ here (c.loop-operand.invariant place h)
          (ap (λ r. get_or (map (λ list. list.items) r) place []) w.readers-is ∙ ap (λ r. get_or r place []) w.in_ok-push_reader.ensures
          ∙ listed_put c.args.nodes.now (map (λ list. list.items) c.loop-operand.readers) place c.args.slot o long (sym test ∙ w.if-is_given.true))
      | else-is_given w ↦
          listed_more c.args.nodes.now (map (λ list. list.items) c.loop-operand.readers) (map (λ list. list.items) c.args.readers.now) place c.args.slot i c.args.operands.now none _ here (c.loop-operand.invariant place h)
          (ap (λ r. get_or (map (λ list. list.items) r) place []) w.readers-is
          ∙ listed_still c.args.nodes.now (map (λ list. list.items) c.loop-operand.readers) place c.args.slot o (sym test ∙ w.if-is_given.false))
    ]
