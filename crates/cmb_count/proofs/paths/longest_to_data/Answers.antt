use Rattle.std.proofs.Common.{◌≡◌, ◌∙◌, ◌+◌, ◌<◌, ℕ, ap, sym, subst, arith, length}
use Rattle.cmb_netlist.specs.Netlist.{Netlist, IsWired, driver_of}
use Rattle.cmb_netlist.specs.declared.netlist.Driver.TheVariants.{Flop}
use Rattle.cmb_netlist.proofs.Wired.{driver-wired}
use Rattle.cmb_count.specs.Inner.LongestPaths.{IsLongestSoFar, longest_at, time_at}
use Rattle.cmb_count.specs.Paths.{IsEnd}
use Rattle.cmb_count.proofs.LongestFacts.{IsEndBelow, end_all, end_more, end_of_flop, end_skipped, longest_more, longest_same}
use Rattle.cmb_count.proofs.paths.longest_to_data.Goals.{in-Some, in_default}
use Rattle.cmb_count.proofs.paths.longest_to_data.Goals as goal

pub loop-flop-preserved : goal.loop-flop-preserved
loop-flop-preserved c =
    let design = c.args.design.now in
    let paths = c.args.between in
    let k = c.loop-flop.flop in
    elim c.match-data_at.branch [
      | in-Some w ↦
          let x = w.in-Some.net in
          let is : driver_of design.netlist k ≡ Flop x = w.in-Some.ensures.0 in
          let within : k < length design.netlist.names = omega (arith, c.loop-flop-test.true, c.len-flop-end.ensures.value, ap (λ (n : Netlist). length n.names) c.netlist.ensures) in
          let low : x < length design.netlist.names = subst (IsWired (length design.netlist.names)) is (driver-wired design.netlist c.requires.sound k) in
          let come : w.longest_at.result ≡ longest_at x (time_at c.args.arrivals.now x) = w.longest_at.ensures ∙ ap (longest_at x) w.at.ensures in
          subst (IsLongestSoFar design paths c.args.arrivals.now (IsEndBelow paths design (k + 1))) (sym w.longest-is)
          (longest_more design paths c.args.arrivals.now x (IsEndBelow paths design k) (IsEndBelow paths design (k + 1)) c.loop-flop.longest w.longest_at.result w.longer-longest.result c.requires.arrivals
          low (end_of_flop paths design k x is w.in-Some.ensures.1) come (λ net h. end_more paths design k x net is h)
          w.longer-longest.ensures.one w.longer-longest.ensures.other w.longer-longest.ensures.either c.loop-flop.invariant)
      | in_default w ↦
          subst (IsLongestSoFar design paths c.args.arrivals.now (IsEndBelow paths design (k + 1))) (sym w.longest-is)
          (longest_same design paths c.args.arrivals.now (IsEndBelow paths design k) (IsEndBelow paths design (k + 1)) c.loop-flop.longest
          (λ net h. end_skipped paths design k net w.in_default.ensures h) c.loop-flop.invariant)
    ]

pub returns : goal.returns
returns c =
    let design = c.args.design.now in
    let n = c.loop-flop.flop in
    let all : length design.netlist.names ≡ n = omega (arith, c.loop-flop-test.false, c.loop-flop.auto.flop-end, c.len-flop-end.ensures.value, ap (λ (n : Netlist). length n.names) c.netlist.ensures) in
    longest_same design c.args.between c.args.arrivals.now (IsEndBelow c.args.between design n) (IsEnd c.args.between design) c.loop-flop.longest
    (λ net h. subst (λ (k : ℕ). IsEndBelow c.args.between design k net) all (end_all c.args.between design net c.requires.sound h)) c.loop-flop.invariant
