use Rattle.std.proofs.Common.{arith}
use Rattle.cmb_run_text.proofs.LineFacts.{vars-done, vars-more}
use Rattle.cmb_run_text.proofs.lines.push_vars.Goals as goal

pub loop-net-preserved : goal.loop-net-preserved
loop-net-preserved c =
    vars-more c.args.netlist.now.names c.loop-net.net c.name.result.now c.loop-net.out.items c.push_var.new.out.items _ (omega arith) c.name.ensures c.in_ok-push_var.ensures c.loop-net.invariant

pub returns : goal.returns
returns c = vars-done c.args.netlist.now.names c.loop-net.net c.loop-net.out.items _ (omega arith) c.loop-net.invariant
