use Rattle.std.proofs.Common.{arith}
use Rattle.cmb_netlist.specs.Netlist.{driver_of}
use Rattle.cmb_engine.proofs.RowFacts.{looks-earlier}
use Rattle.cmb_shares.proofs.TraceFacts.{looks-before}
use Rattle.cmb_shares.proofs.laws.windows_look_back.Goals as goal

pub returns : goal.returns
returns c = record {
  told = λ design crossing windows net clock tick other past ahead crosses within late early looks.
      looks-before design net clock _ tick other past (driver_of design.netlist net) crosses.1 (ahead net clock crosses within) late early looks;
  made = λ network processes sender reader leads can design net tick other past early looks.
      omega (arith, looks-earlier design net tick (driver_of design.netlist net) other past looks, early, can.0.3 sender leads);
}
