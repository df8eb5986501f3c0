use Rattle.std.proofs.Common.{◌≡◌, ◌∙◌, ◌<◌, ℕ, List, length, None, Some, ap, sym, arith}
use Rattle.std.specs.Prelude.{◌||◌}
use Rattle.std.specs.Str.{bytes_eq}
use Rattle.cmb_bench.specs.Buses.{bus_of}
use Rattle.cmb_bench.specs.Statement.{is_member}
use Rattle.cmb_bench.proofs.MemberFacts.{bit_more, bit_same, member_more}
use Rattle.cmb_bench.proofs.buses.buses_of.Goals.{in-Some+in_ok-insert_name, in_default}
use Rattle.cmb_bench.proofs.buses.buses_of.Goals as goal

pub loop-net-preserved : goal.loop-net-preserved
loop-net-preserved c = λ x.
    let names = c.args.netlist.now.names in
    let net = c.loop-net.net in
    let within : net < length names = omega (arith, c.loop-net-test.true, c.len-net-end.ensures.value) in
    elim c.match-bus_of.branch [
      | in-Some+in_ok-insert_name w ↦
          ap (λ (s : _). is_member x s.keys) w.buses-is
          ∙ member_more c.loop-net.buses.keys _ w.in-Some.bus.now x w.in_ok-insert_name.field-0 w.in_ok-insert_name.ensures.new w.in_ok-insert_name.ensures.names
          ∙ ap (λ b. b || bytes_eq x w.in-Some.bus.now) (c.loop-net.invariant x)
          ∙ bit_more names net x within w.in-Some.bus.now (sym (ap bus_of c.name.ensures) ∙ w.in-Some.ensures)
      | in_default w ↦
          ap (λ (s : _). is_member x s.keys) w.buses-is ∙ c.loop-net.invariant x ∙ bit_same names net x within (sym (ap bus_of c.name.ensures) ∙ w.in_default.ensures)
    ]
