use Rattle.std.proofs.Common.{◌≡◌, ◌+◌, ◌<◌, ℕ, length, replicate, sym, subst, ap, ◌∙◌, arith}
use Rattle.std.proofs.lemmas.List.{length-replicate, length-set}
use Rattle.cmb_netlist.specs.Netlist.{Netlist}
use Rattle.cmb_design_model.specs.Design.{Design}
use Rattle.cmb_design_model.specs.Exact.{nets_of}
use Rattle.cmb_engine.specs.Inner.Planes.{planes_of}
use Rattle.cmb_engine.proofs.ZeroFacts.{AreStarted, started-more, started-none, started-shows}
use Rattle.cmb_engine.proofs.start.start_words.Goals as goal

count : (netlist : Netlist) (design : Design) (nets : ℕ) → netlist ≡ design.netlist → nets ≡ length netlist.names → nets ≡ nets_of design
count netlist design nets is len = len ∙ ap (λ (n : Netlist). length n.names) is

pub loop-net-init : goal.loop-net-init
loop-net-init c =
    let items : c.in_ok-words.words ≡ replicate (c.len-nets.result + length c.args.lines.now) (planes_of c.start_word.result) = c.in_ok-words.ensures in
    record {
      len = ap length items ∙ length-replicate (c.len-nets.result + length c.args.lines.now) (planes_of c.start_word.result) ∙ ap (λ n. n + length c.args.lines.now) (count c.netlist.result.now c.args.design.now c.len-nets.result c.netlist.ensures c.len-nets.ensures.value);
      started = started-none c.args.design.now c.args.roles.now (c.len-nets.result + length c.args.lines.now) c.start_word.result c.in_ok-words.words items c.start_word.ensures;
    }

pub loop-net-preserved : goal.loop-net-preserved
loop-net-preserved c =
    let inside : c.loop-net.net < length c.loop-net.words =
    omega (arith, c.loop-net-test.true, c.loop-net.invariant.len, count c.netlist.result.now c.args.design.now c.len-nets.result c.netlist.ensures c.len-nets.ensures.value) in
    record {
      len = ap length c.set.ensures ∙ length-set c.loop-net.words c.loop-net.net (planes_of c.start_word-in-loop-net.result) ∙ c.loop-net.invariant.len;
      started = started-more c.args.design.now c.args.roles.now c.loop-net.net c.start_word-in-loop-net.result c.loop-net.words c.set.new.self inside c.set.ensures
          (λ trace at. c.start_word-in-loop-net.ensures trace (at ∙ sym c.level_at_start.ensures)) c.loop-net.invariant.started;
    }

pub returns : goal.returns
returns c =
    let all : c.loop-net.net ≡ nets_of c.args.design.now = omega (arith, count c.netlist.result.now c.args.design.now c.len-nets.result c.netlist.ensures c.len-nets.ensures.value) in
    record {
      len = c.loop-net.invariant.len;
      shows =
          started-shows c.args.design.now c.args.roles.now c.args.lines.now c.loop-net.words c.requires.lines c.loop-net.invariant.len
          (subst (λ n. AreStarted c.args.design.now c.args.roles.now n c.loop-net.words) all c.loop-net.invariant.started);
    }
