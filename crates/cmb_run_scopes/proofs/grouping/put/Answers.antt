use Rattle.std.proofs.Common.{rules}
use Rattle.cmb_run_scopes.proofs.GroupFacts.{placed-again, placed-first}
use Rattle.cmb_run_scopes.proofs.grouping.put.Goals as goal

pub returns-in_ok-push-clause-scopes : goal.returns-in_ok-push-clause-scopes
returns-in_ok-push-clause-scopes c =
    placed-first _ c.args.name.now c.args.place c.args.scopes.now.items c.args.seen.now.keys c.in_ok-index.is_first _ c.push.new.self.items c.in_ok-new.ensures c.requires c.if-is_first.true
    c.in_ok-index.ensures.added c.in_ok-new-2.ensures c.in_ok-push.ensures.items

pub returns-in_ok-add-clause-scopes : goal.returns-in_ok-add-clause-scopes
returns-in_ok-add-clause-scopes c =
    placed-again _ c.args.name.now c.args.place c.args.scopes.now.items c.args.seen.now.keys c.insert_full.new.self.keys c.in_ok-index.is_first c.in_ok-index.index c.index_mut.result.now
    c.add.new.self c.in_ok-new.ensures c.requires c.if-is_first.false c.in_ok-index.ensures.added c.in_ok-index.ensures.keys c.in_ok-index.ensures.unique c.in_ok-index.ensures.index
    c.in_ok-index.ensures.within (search rules) c.in_ok-add.ensures
