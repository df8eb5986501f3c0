use Rattle.std.proofs.lemmas.Result.{IfOk-weaker}
use Rattle.cmb_bench.specs.Statement.{is_member}
use Rattle.cmb_bench.proofs.ListedFacts.{Lists-read, meant_within}
use Rattle.cmb_bench.proofs.listed.read_list.Goals as goal
use Rattle.cmb_bench.proofs.listed.read_list.Goals.{in-Ok-read_names, in-Err}

pub returns-clause-listed : goal.returns-clause-listed
returns-clause-listed c =
    elim c.match-read_names.branch [
      | in-Ok-read_names w ↦
          rw w.nets-is (IfOk-weaker w.meant_nets-nets.result _ _
          (λ nets meant. Lists-read c.args.netlist.now c.args.text.now nets.items c.read_names.new.said.keys w.in-Ok-read_names.ensures.said meant)
          w.meant_nets-nets.ensures.meant)
      | in-Err w ↦ rw w.nets-is tt
    ]

pub returns-clause-nets : goal.returns-clause-nets
returns-clause-nets c =
    elim c.match-read_names.branch [
      | in-Ok-read_names w ↦
          rw w.nets-is (IfOk-weaker w.meant_nets-nets.result _ _
          (λ nets meant. meant_within c.args.netlist.now (λ name. is_member name c.read_names.new.said.keys) nets.items meant)
          w.meant_nets-nets.ensures.meant)
      | in-Err w ↦ rw w.nets-is tt
    ]
