use Rattle.std.proofs.Common.{ap, map, sym, ◌∙◌, subst, []}
use Rattle.std.proofs.lemmas.Result.{err_from_is_err_and}
use Rattle.cmb_bench.specs.Inner.Views.{statement}
use Rattle.cmb_bench.specs.Statement.{driven}
use Rattle.cmb_bench.specs.Grammar.{AreLawful}
use Rattle.cmb_bench.proofs.Whole.{parses_spells, found_of, only_of, never_of, few_of, front_fault, fault_of}
use Rattle.cmb_bench.proofs.reader.read.Goals as goal

pub returns-in_err-items-clause-only : goal.returns-in_err-items-clause-only
returns-in_err-items-clause-only c = let p = err_from_is_err_and c.from_residual.result c.from_residual.ensures.1 in rw (p.1, p.2) (never_of c.args.bytes.now c.in_err-items.field-0.0 c.in_err-items.ensures.read)

pub build-requires : goal.build-requires
build-requires c = record {
  named = c.in_ok-items.ensures.names ∙ ap (λ l. driven (map statement l)) (sym c.deref.ensures.value);
  lawful = subst (λ l. AreLawful [] (map statement l)) (sym c.deref.ensures.value) (parses_spells [] _ _ _ c.in_ok-items.ensures.read.1).1;
  few = few_of c.args.bytes.now _ _ _ c.in_ok-items.ensures.names c.in_ok-items.ensures.read.1;
}

pub returns-clause-found : goal.returns-clause-found
returns-clause-found c = found_of c.args.bytes.now _ _ _ _ c.build.result c.in_ok-items.ensures.names (ap (map statement) c.deref.ensures.value) c.in_ok-items.ensures.read.1 c.build.ensures.read c.build.ensures.names

pub returns-clause-only : goal.returns-clause-only
returns-clause-only c = only_of c.args.bytes.now _ _ _ _ c.build.result c.in_ok-items.ensures.names (ap (map statement) c.deref.ensures.value) c.in_ok-items.ensures.read.1 c.build.ensures.read c.build.ensures.names

pub returns-clause-fault : goal.returns-clause-fault
returns-clause-fault c = fault_of c.args.bytes.now _ _ _ _ c.build.result c.in_ok-items.ensures.names (ap (map statement) c.deref.ensures.value) c.in_ok-items.ensures.read.1 c.build.ensures.read

pub returns-in_err-items-clause-fault : goal.returns-in_err-items-clause-fault
returns-in_err-items-clause-fault c = let p = err_from_is_err_and c.from_residual.result c.from_residual.ensures.1 in rw (p.1, p.2) (front_fault c.args.bytes.now c.in_err-items.field-0.0 c.in_err-items.ensures.read)
