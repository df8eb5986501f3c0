use Rattle.cmb_run_text.specs.Chosen.{vcd_of}
use Rattle.cmb_run_text.specs.Vcd.{vcd}
use Rattle.cmb_sim.proofs.Puts.{IsPut-engine, IsPut-more}
use Rattle.cmb_sim.specs.declared.plan.Way.TheVariants.{Chosen, Engine, Shares}
use Rattle.cmb_sim.proofs.running.write_by.Goals as goal

pub returns-in-Table : goal.returns-in-Table
returns-in-Table g c = rw c.in-Table.is (IsPut-more _ (λ _. ⊥) _ _ _ (λ f h. absurd h) (c.put.ensures (vcd c.args.design.now) c.table_text.ensures))

pub returns-in-Picked : goal.returns-in-Picked
returns-in-Picked g c =
    rw c.in-Picked.is
    (IsPut-more _ (λ _. ⊥) _ _ _ (λ f h. absurd h) (c.put-in-Picked.ensures (vcd_of c.args.design.now c.in-Picked.nets.items) (rw c.deref.ensures.value at c.picked_text.ensures)))

pub returns-in-Chosen : goal.returns-in-Chosen
returns-in-Chosen g c = rw c.in-Chosen.is (IsPut-engine _ (Chosen c.in-Chosen.nets c.in-Chosen.threads) c.args.design.now _ _ tt (rw c.deref-in-Chosen.ensures.value at c.write_chosen.ensures))

pub returns-in-Engine : goal.returns-in-Engine
returns-in-Engine g c = rw c.in-Engine.is (IsPut-engine _ (Engine c.in-Engine.threads) c.args.design.now _ _ tt c.write_by_engine.ensures)

pub returns-in-Shares : goal.returns-in-Shares
returns-in-Shares g c = rw c.in-Shares.is (IsPut-engine _ (Shares c.in-Shares.partition c.in-Shares.threads) c.args.design.now _ _ tt c.write_by_shares.ensures)

pub returns-in-Rounds : goal.returns-in-Rounds
returns-in-Rounds g c = rw c.in-Rounds.is (IsPut-more _ (λ _. ⊥) _ _ _ (λ f h. absurd h) (c.put-in-Rounds.ensures (vcd c.args.design.now) c.rounds_text.ensures))
