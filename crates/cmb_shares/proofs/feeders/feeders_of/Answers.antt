use Rattle.std.proofs.Common.{◌≡◌, ◌∙◌, ℕ, true, false, length, get_or, ap, subst, sym, arith}
use Rattle.std.specs.Prelude.{Contains}
use borrow.Author.Count.{below_more}
use Rattle.cmb_netlist.specs.Netlist.{Netlist, driver_of, pins_of}
use Rattle.cmb_engine.specs.Shares.{IsDriven}
use Rattle.cmb_shares.proofs.HeardFacts.{set_within}
use Rattle.cmb_shares.proofs.feeders.feeders_of.Goals as goal

pub loop-reader-preserved : goal.loop-reader-preserved
loop-reader-preserved c =
    let was = c.loop-reader.invariant in
    let driven = c.args.driven.now in
    let owners = c.args.owners.now in
    let feeders = c.mark_read.new.feeders.items in
    let P : ℕ → Type 0 = λ k. IsDriven driven k → (net : ℕ) → Contains (pins_of (driver_of c.netlist-netlist.result.now k)) net → get_or driven net false ≡ false
    → get_or feeders (get_or owners net 0) false ≡ true in
    record {
      len = c.mark_read.ensures.len ∙ was.len;
      marked = below_more P c.loop-reader.reader (λ k h is net there un. c.mark_read.ensures.kept (get_or owners net 0) (was.marked k h is net there un)) c.mark_read.ensures.marked;
    }

pub returns-clause-marked : goal.returns-clause-marked
returns-clause-marked c = λ net given.
    let same = c.netlist-netlist.ensures in
    let inside = set_within c.args.driven.now given.reader given.reader_driven in
    let long : length c.netlist-netlist.result.now.names ≡ length c.args.design.now.netlist.names = ap (λ (n : Netlist). length n.names) same in
    c.loop-reader.invariant.marked given.reader (omega (arith, inside, c.requires.driven, c.loop-reader-test.false, c.len-reader-end.ensures.value, long)) given.reader_driven net
    (subst (λ (n : Netlist). Contains (pins_of (driver_of n given.reader)) net) (sym same) given.read) given.undriven
