-- Steps of nets of different clusters leave the same clocks in either order.
use Rattle.std.proofs.Common.{◌≡◌, ℕ, Bool, true, false, List, get_or, set, refl, ap, sym, ◌∙◌, cond, ltb, eqb, Result, get_or-set_other}
use mathlib.Core.Path.{fun_ext}
use Rattle.std.proofs.lemmas.List.{set_comm, set-get_or}
use Rattle.std.proofs.lemmas.Bool.{eqb-true}
use Rattle.cmb_design_model.specs.Design.{Design}
use Rattle.cmb_design_model.specs.Exact.{nets_of}
use Rattle.cmb_core_protocol.specs.declared.event.Event.TheVariants.{Step}
use Rattle.cmb_core_protocol.specs.declared.event.Reply.{Reply}
use Rattle.cmb_core_protocol.specs.declared.event.PlayFault.{PlayFault}
use Rattle.cmb_core_cluster.specs.Clustering.{Clustering, cluster_of}
use Rattle.cmb_core_cluster.specs.Reach.{reach_by}
use Rattle.cmb_core_protocol.specs.Clocks.{Clocks, Outcome, out_clock, in_clock, seen_clock, machine_reach, with_out, play}

-- the output clock after a step
abbrev step_target : Design → Clustering → Clocks → ℕ → ℕ
step_target design clustering clocks net =
    cond (ltb net (nets_of design)) (cond (ltb (out_clock clocks net) (machine_reach design clustering clocks net)) (machine_reach design clustering clocks net) (out_clock clocks net)) (out_clock clocks net)

with_out-same : (clocks : Clocks) (net : ℕ) → with_out clocks net (out_clock clocks net) ≡ clocks
with_out-same clocks net =
    let same : set clocks.outs net (get_or clocks.outs net 0) ≡ clocks.outs = set-get_or clocks.outs net 0 in
    λ i. record { outs = same i; ins = clocks.ins; posts = clocks.posts; promises = clocks.promises }

abbrev outcome : Clocks → Result Reply PlayFault → Outcome
outcome clocks reply = record { clocks = clocks; reply = reply }

step-is : (design : Design) (clustering : Clustering) (clocks : Clocks) (net : ℕ) → (play design clustering clocks (Step net)).clocks ≡ with_out clocks net (step_target design clustering clocks net)
step-is design clustering clocks net =
    go (ltb net (nets_of design)) (ltb (out_clock clocks net) (machine_reach design clustering clocks net)) _ _ _
  where
    go : (there above : Bool) (far near none : Result Reply PlayFault) → (cond there (cond above (outcome (with_out clocks net (machine_reach design clustering clocks net)) far) (outcome clocks near)) (outcome clocks none)).clocks ≡ with_out clocks net (cond there (cond above (machine_reach design clustering clocks net) (out_clock clocks net)) (out_clock clocks net))
    go true true far near none = refl
    go true false far near none = sym (with_out-same clocks net)
    go false above far near none = sym (with_out-same clocks net)

module _ (design : Design) (clustering : Clustering) (clocks : Clocks) (net other : ℕ) (apart : cluster_of clustering net ≡ cluster_of clustering other → ⊥) (tick : ℕ) where
  out-other : (m : ℕ) → (m ≡ net → ⊥) → out_clock (with_out clocks net tick) m ≡ out_clock clocks m
  out-other m ne = get_or-set_other clocks.outs net m tick 0 ne

  seen-other : (m : ℕ) → seen_clock clustering (with_out clocks net tick) (cluster_of clustering other) m ≡ seen_clock clustering clocks (cluster_of clustering other) m
  seen-other m = go (eqb (cluster_of clustering m) (cluster_of clustering other)) refl
    where
      go : (b : Bool) → eqb (cluster_of clustering m) (cluster_of clustering other) ≡ b → cond b (out_clock (with_out clocks net tick) m) (in_clock clocks (cluster_of clustering other) m) ≡ cond b (out_clock clocks m) (in_clock clocks (cluster_of clustering other) m)
      go true e = out-other m (λ same. apart (ap (cluster_of clustering) (sym same) ∙ eqb-true _ _ e))
      go false e = refl

  reach-other : machine_reach design clustering (with_out clocks net tick) other ≡ machine_reach design clustering clocks other
  unfolding machine_reach
  reach-other = ap (λ (clock : ℕ → ℕ). reach_by design clock other) (fun_ext seen-other)

  target-other : step_target design clustering (with_out clocks net tick) other ≡ step_target design clustering clocks other
  target-other =
      let out : out_clock (with_out clocks net tick) other ≡ out_clock clocks other = out-other other (λ same. apart (ap (cluster_of clustering) (sym same))) in
      ap (λ (r : ℕ). cond (ltb other (nets_of design)) (cond (ltb (out_clock (with_out clocks net tick) other) r) r (out_clock (with_out clocks net tick) other)) (out_clock (with_out clocks net tick) other)) reach-other
      ∙ ap (λ (o : ℕ). cond (ltb other (nets_of design)) (cond (ltb o (machine_reach design clustering clocks other)) (machine_reach design clustering clocks other) o) o) out

two_steps : (design : Design) (clustering : Clustering) (clocks : Clocks) (net other : ℕ) → (cluster_of clustering net ≡ cluster_of clustering other → ⊥) → (play design clustering (play design clustering clocks (Step net)).clocks (Step other)).clocks ≡ with_out (with_out clocks net (step_target design clustering clocks net)) other (step_target design clustering clocks other)
two_steps design clustering clocks net other apart =
    ap (λ (s : Clocks). (play design clustering s (Step other)).clocks) (step-is design clustering clocks net)
    ∙ step-is design clustering (with_out clocks net (step_target design clustering clocks net)) other
    ∙ ap (with_out (with_out clocks net (step_target design clustering clocks net)) other) (target-other design clustering clocks net other apart (step_target design clustering clocks net))

pub steps-commute : (design : Design) (clustering : Clustering) (clocks : Clocks) (net other : ℕ) → (cluster_of clustering net ≡ cluster_of clustering other → ⊥) → (play design clustering (play design clustering clocks (Step net)).clocks (Step other)).clocks ≡ (play design clustering (play design clustering clocks (Step other)).clocks (Step net)).clocks
steps-commute design clustering clocks net other apart =
    two_steps design clustering clocks net other apart
    ∙ (let same : set (set clocks.outs net (step_target design clustering clocks net)) other (step_target design clustering clocks other) ≡ set (set clocks.outs other (step_target design clustering clocks other)) net (step_target design clustering clocks net) = set_comm clocks.outs net other (step_target design clustering clocks net) (step_target design clustering clocks other) (λ e. apart (ap (cluster_of clustering) e)) in
    ap (λ (outs : List ℕ). record clocks { outs = outs }) same)
    ∙ sym (two_steps design clustering clocks other net (λ e. apart (sym e)))
