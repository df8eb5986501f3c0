use Rattle.std.proofs.Common.{◌≡◌, ◌<◌, length, List, [], ◌++◌, map, take, drop, get_or, arith, sym, ◌∙◌, ap, subst}
use Rattle.std.specs.Prelude.{All}
use Rattle.std.proofs.lemmas.List.{get_or_read, length-map, length-replicate, get_or-replicate, take_all, take_at}
use Rattle.std.proofs.lemmas.List.FromFn.{fill_by_all}
use Rattle.cmb_core_cluster.specs.declared.process.ProcessPin.{ProcessPin}
use Rattle.cmb_core_cluster.specs.declared.process.ProcessRule.TheVariants.{Given}
use Rattle.cmb_core_cluster.specs.declared.directory.Reader.{Reader}
use Rattle.cmb_core_cluster.specs.Rows.{Process}
use Rattle.cmb_core_cluster.specs.Directory.{listed_readers}
use Rattle.cmb_core_cluster.proofs.ReaderFacts.{listed_none, process_listed, pins_if}
use Rattle.cmb_core_cluster.proofs.readers.readers_among.Goals as goal

pub loop-slot-init : goal.loop-slot-init
loop-slot-init c = record {
  count = omega (arith, length-map c.in_ok-readers.readers.items (λ list. list.items), ap length c.in_ok-readers.ensures, length-replicate {A = List Reader} (length c.args.nodes.now) []);
  each = λ place h. ap (λ r. get_or r place []) c.in_ok-readers.ensures ∙ get_or-replicate (length c.args.nodes.now) place [] [] h ∙ sym (listed_none c.args.nodes.now place);
}

pub push_readers-requires : goal.push_readers-requires
push_readers-requires c =
    let none : Process = record { rule = Given; operands = []; stimulus = [] } in
    let read : c.index-nodes-slot.result ≡ get_or c.args.nodes.now c.loop-slot.slot none = get_or_read _ _ _ c.loop-slot-test.true c.index-nodes-slot.is none in
    let P : List ProcessPin → Type 0 = λ os. All (λ o. o.slot < length c.args.nodes.now) os in
    record {
      within = subst P (sym (c.operands.ensures ∙ ap (λ p. p.operands) read)) (c.requires.within c.loop-slot.slot none c.loop-slot-test.true);
      paired = ap length c.deref_mut.ensures.value ∙ c.loop-slot.invariant.count;
    }

pub loop-slot-preserved : goal.loop-slot-preserved
loop-slot-preserved c =
    let none : Process = record { rule = Given; operands = []; stimulus = [] } in
    let read : c.index-nodes-slot.result ≡ get_or c.args.nodes.now c.loop-slot.slot none = get_or_read _ _ _ c.loop-slot-test.true c.index-nodes-slot.is none in
    let whole : take c.loop-slot.readers.len (c.push_readers.new.readers ++ drop (length c.push_readers.new.readers) c.loop-slot.readers.items) ≡ c.push_readers.new.readers =
    take_at c.push_readers.new.readers (drop (length c.push_readers.new.readers) c.loop-slot.readers.items) c.loop-slot.readers.len (omega (arith, ap length c.deref_mut.ensures.value, c.deref_mut.ensures.len))
    in
    record {
      count = ap length whole ∙ (omega (arith, c.loop-slot.invariant.count, ap length c.deref_mut.ensures.value));
      each = λ place h.
          ap (λ r. get_or (map (λ list. list.items) r) place []) whole
          ∙ process_listed c.args.nodes.now place c.loop-slot.slot none (get_or (map (λ list. list.items) c.loop-slot.readers.items) place []) _ c.loop-slot-test.true (c.loop-slot.invariant.each place h)
          (c.in_ok-push_readers.ensures place h ∙ ap (λ r. get_or (map (λ list. list.items) r) place [] ++ pins_if c.args.nodes.now place c.loop-slot.slot c.operands.result.now) c.deref_mut.ensures.value
          ∙ ap (λ os. get_or (map (λ list. list.items) c.loop-slot.readers.items) place [] ++ pins_if c.args.nodes.now place c.loop-slot.slot os) (c.operands.ensures ∙ ap (λ p. p.operands) read));
    }

pub returns : goal.returns
returns c =
    let all : take c.loop-slot.slot c.args.nodes.now ≡ c.args.nodes.now = take_all c.loop-slot.slot c.args.nodes.now (omega arith) in
    fill_by_all (listed_readers c.args.nodes.now c.args.nodes.now) (map (λ list. list.items) c.loop-slot.readers.items) (length c.args.nodes.now) [] (omega (arith, length-map c.loop-slot.readers.items (λ list. list.items), c.loop-slot.invariant.count))
    (λ place h. c.loop-slot.invariant.each place h ∙ ap (λ ps. listed_readers c.args.nodes.now ps place) all)
