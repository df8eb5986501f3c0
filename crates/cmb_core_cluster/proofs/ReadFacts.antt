-- Which nets a cluster drives and which it is given.
use Rattle.std.proofs.Common.{◌≡◌, ℕ, ◌+◌, ◌<◌, Bool, true, false, not, ◌&&◌, ◌||◌, cond, eqb, List, [], ◌∷◌, ◌⊎◌, inl, inr, length, get_or, drop, map, refl, sym, ◌∙◌, ap}
use Rattle.std.specs.Prelude.{filter}
use Rattle.std.specs.List.{list_all, range_with_len}
use Rattle.std.proofs.lemmas.Bool.{eq-eqb, ne_eqb, cases_eq}
use Rattle.std.proofs.lemmas.List.{drop_more}
use Rattle.std.proofs.lemmas.List.Elements.{filter_agree}
use Rattle.cmb_wave.specs.Wave.{Wave}
use Rattle.cmb_netlist.specs.declared.netlist.Driver.{Driver}
use Rattle.cmb_netlist.specs.declared.netlist.Driver.TheVariants.{Input as InputNet, Gate as GateNet, Flop as FlopNet}
use Rattle.cmb_netlist.specs.Netlist.{driver_of}
use Rattle.cmb_design_model.specs.Design.{Design}
use Rattle.cmb_design_model.specs.Exact.{nets_of}
use Rattle.cmb_core_cluster.specs.Clustering.{Clustering, cluster_of, has_input, some_below, net_reads}
use Rattle.cmb_core_cluster.specs.Clusters.{Cluster, IsDrivenBy, wave_nets}
use Rattle.cmb_core_cluster.specs.Opened.{IsProcessOf, AreProcessesOf, IsClusterOf, is_own, own_nets, read_nets, held_nets}
use Rattle.cmb_core_cluster.specs.Rows.{Process, is_given}
use Rattle.cmb_core_cluster.specs.Directory.{driven_among, given_among}

pub driven_nets : (processes : List Process) (waves : List Wave) → map (λ wave. wave.net) (driven_among processes waves) ≡ driven_among processes (wave_nets waves)
driven_nets [] waves = refl
driven_nets (p ∷ processes) [] = refl
driven_nets (p ∷ processes) (w ∷ waves) = go (is_given p.rule) (driven_nets processes waves)
  where
    go : (b : Bool) → map (λ wave. wave.net) (driven_among processes waves) ≡ driven_among processes (wave_nets waves) → map (λ wave. wave.net) (cond b (driven_among processes waves) (w ∷ driven_among processes waves)) ≡ cond b (driven_among processes (wave_nets waves)) (w.net ∷ driven_among processes (wave_nets waves))
    go true e = e
    go false e = ap (λ ns. w.net ∷ ns) e

pub given_nets : (processes : List Process) (waves : List Wave) → map (λ wave. wave.net) (given_among processes waves) ≡ given_among processes (wave_nets waves)
given_nets [] waves = refl
given_nets (p ∷ processes) [] = refl
given_nets (p ∷ processes) (w ∷ waves) = go (is_given p.rule) (given_nets processes waves)
  where
    go : (b : Bool) → map (λ wave. wave.net) (given_among processes waves) ≡ given_among processes (wave_nets waves) → map (λ wave. wave.net) (cond b (w ∷ given_among processes waves) (given_among processes waves)) ≡ cond b (w.net ∷ given_among processes (wave_nets waves)) (given_among processes (wave_nets waves))
    go true e = ap (λ ns. w.net ∷ ns) e
    go false e = e

-- a process by a driver is not given
pub driven-not_given : (design : Design) (net : ℕ) (driver : Driver) (process : Process) → IsDrivenBy design net driver process → is_given process.rule ≡ false
driven-not_given design net InputNet process d = ap is_given d.0
driven-not_given design net (GateNet kind sources) process d = ap is_given d.0
driven-not_given design net (FlopNet source) process d = ap is_given d.0

module _ (design : Design) (clustering : Clustering) (cluster : ℕ) where
  -- a process is given just where the net is not the cluster's own
  pub given-is : (net : ℕ) (process : Process) → IsProcessOf design clustering cluster net process → is_given process.rule ≡ not (is_own clustering cluster net)
  given-is net process is = go (cases_eq (cluster_of clustering net) cluster)
    where
      go : (cluster_of clustering net ≡ cluster) ⊎ (cluster_of clustering net ≡ cluster → ⊥) → is_given process.rule ≡ not (is_own clustering cluster net)
      go (inl own) = let e : eqb (cluster_of clustering net) cluster ≡ true = eq-eqb _ _ own in driven-not_given design net (driver_of design.netlist net) process (is.own own) ∙ sym (ap not e)
      go (inr other) = let e : eqb (cluster_of clustering net) cluster ≡ false = ne_eqb _ _ other in ap is_given (is.given other) ∙ sym (ap not e)

  own_among : (nets : List ℕ) (processes : List Process) → AreProcessesOf design clustering cluster nets processes → driven_among processes nets ≡ filter (is_own clustering cluster) nets
  own_among [] [] a = refl
  own_among (net ∷ nets) (p ∷ processes) a = go (is_given p.rule) (is_own clustering cluster net) (given-is net p a.0) (own_among nets processes a.1)
    where
      go : (b o : Bool) → b ≡ not o → driven_among processes nets ≡ filter (is_own clustering cluster) nets → cond b (driven_among processes nets) (net ∷ driven_among processes nets) ≡ cond o (net ∷ filter (is_own clustering cluster) nets) (filter (is_own clustering cluster) nets)
      go true true e rest = cc
      go true false e rest = rest
      go false true e rest = ap (λ ns. net ∷ ns) rest
      go false false e rest = cc
  own_among [] (p ∷ processes) a = absurd a
  own_among (net ∷ nets) [] a = absurd a

  other_among : (nets : List ℕ) (processes : List Process) → AreProcessesOf design clustering cluster nets processes → given_among processes nets ≡ filter (λ net. not (is_own clustering cluster net)) nets
  other_among [] [] a = refl
  other_among (net ∷ nets) (p ∷ processes) a = go (is_given p.rule) (is_own clustering cluster net) (given-is net p a.0) (other_among nets processes a.1)
    where
      go : (b o : Bool) → b ≡ not o → given_among processes nets ≡ filter (λ n. not (is_own clustering cluster n)) nets → cond b (net ∷ given_among processes nets) (given_among processes nets) ≡ cond (not o) (net ∷ filter (λ n. not (is_own clustering cluster n)) nets) (filter (λ n. not (is_own clustering cluster n)) nets)
      go true true e rest = cc
      go true false e rest = ap (λ ns. net ∷ ns) rest
      go false true e rest = rest
      go false false e rest = cc
  other_among [] (p ∷ processes) a = absurd a
  other_among (net ∷ nets) [] a = absurd a

  filter_twice : (p q : ℕ → Bool) (xs : List ℕ) → filter p (filter q xs) ≡ filter (λ x. q x && p x) xs
  filter_twice p q [] = refl
  filter_twice p q (x ∷ xs) = go (q x) (p x) (filter_twice p q xs) refl
    where
      go : (a b : Bool) → filter p (filter q xs) ≡ filter (λ x. q x && p x) xs → p x ≡ b → filter p (cond a (x ∷ filter q xs) (filter q xs)) ≡ cond (a && b) (x ∷ filter (λ x. q x && p x) xs) (filter (λ x. q x && p x) xs)
      go true true rest e = rw e (ap (λ ns. x ∷ ns) rest)
      go true false rest e = rw e rest
      go false b rest e = rest

  pub held_own : filter (is_own clustering cluster) (held_nets design clustering cluster) ≡ own_nets design clustering cluster
  held_own =
      filter_twice (is_own clustering cluster) (λ net. is_own clustering cluster net || has_input design clustering cluster net) (range_with_len 0 (nets_of design))
      ∙ filter_agree _ (is_own clustering cluster) (λ net. both (is_own clustering cluster net) (has_input design clustering cluster net)) (range_with_len 0 (nets_of design))
    where
      both : (a b : Bool) → ((a || b) && a) ≡ a
      both true b = refl
      both false true = refl
      both false false = refl

  held_read : filter (λ net. not (is_own clustering cluster net)) (held_nets design clustering cluster) ≡ read_nets design clustering cluster
  unfolding has_input
  held_read =
      filter_twice (λ net. not (is_own clustering cluster net)) (λ net. is_own clustering cluster net || has_input design clustering cluster net) (range_with_len 0 (nets_of design))
      ∙ filter_agree _ (has_input design clustering cluster) (λ net. both (is_own clustering cluster net) (some_below (λ reader. eqb (cluster_of clustering reader) cluster && net_reads design reader net) (nets_of design))) (range_with_len 0 (nets_of design))
    where
      both : (a b : Bool) → ((a || (not a && b)) && not a) ≡ (not a && b)
      both true b = refl
      both false true = refl
      both false false = refl

  pub driven_is_own : (s : Cluster) → IsClusterOf design clustering cluster s → driven_among s.processes (wave_nets s.waves) ≡ own_nets design clustering cluster
  driven_is_own s of = ap (driven_among s.processes) of.nets ∙ own_among (held_nets design clustering cluster) s.processes of.processes ∙ held_own

  pub given_is_read : (s : Cluster) → IsClusterOf design clustering cluster s → given_among s.processes (wave_nets s.waves) ≡ read_nets design clustering cluster
  given_is_read s of = ap (given_among s.processes) of.nets ∙ other_among (held_nets design clustering cluster) s.processes of.processes ∙ held_read

-- one wave after the other
pub driven_rest : (processes : List Process) (waves : List Wave) (i : ℕ) (p : Process) (w : Wave) → i < length processes → i < length waves
    → driven_among (drop i processes) (drop i waves) ≡ cond (is_given (get_or processes i p).rule) (driven_among (drop (i + 1) processes) (drop (i + 1) waves)) (get_or waves i w ∷ driven_among (drop (i + 1) processes) (drop (i + 1) waves))
driven_rest processes waves i p w h k = rw (drop_more processes i p h, drop_more waves i w k) refl

known_at : (upto : ℕ) (g : Bool) (w : Wave) (rest : List Wave) → (not g && not (eqb w.clock upto)) ≡ false → list_all (λ wave. eqb wave.clock upto) (cond g rest (w ∷ rest)) ≡ list_all (λ wave. eqb wave.clock upto) rest
known_at upto true w rest e = refl
known_at upto false w rest e = go (eqb w.clock upto) e
  where
    go : (b : Bool) → not b ≡ false → (b && list_all (λ wave. eqb wave.clock upto) rest) ≡ list_all (λ wave. eqb wave.clock upto) rest
    go true q = refl
    go false q = cc

behind_at : (upto : ℕ) (g : Bool) (w : Wave) (rest : List Wave) → (not g && not (eqb w.clock upto)) ≡ true → list_all (λ wave. eqb wave.clock upto) (cond g rest (w ∷ rest)) ≡ false
behind_at upto true w rest e = cc
behind_at upto false w rest e = go (eqb w.clock upto) e
  where
    go : (b : Bool) → not b ≡ true → (b && list_all (λ wave. eqb wave.clock upto) rest) ≡ false
    go true q = cc
    go false q = refl

-- one wave is known so far, or is not
pub known_more : (upto : ℕ) (processes : List Process) (waves : List Wave) (i : ℕ) (p : Process) (w : Wave) → i < length processes → i < length waves
    → (not (is_given (get_or processes i p).rule) && not (eqb (get_or waves i w).clock upto)) ≡ false
    → list_all (λ wave. eqb wave.clock upto) (driven_among (drop (i + 1) processes) (drop (i + 1) waves)) ≡ list_all (λ wave. eqb wave.clock upto) (driven_among (drop i processes) (drop i waves))
known_more upto processes waves i p w h k e = sym (ap (list_all (λ wave. eqb wave.clock upto)) (driven_rest processes waves i p w h k) ∙ known_at upto (is_given (get_or processes i p).rule) (get_or waves i w) _ e)

pub known_less : (upto : ℕ) (processes : List Process) (waves : List Wave) (i : ℕ) (p : Process) (w : Wave) → i < length processes → i < length waves
    → (not (is_given (get_or processes i p).rule) && not (eqb (get_or waves i w).clock upto)) ≡ true
    → list_all (λ wave. eqb wave.clock upto) (driven_among (drop i processes) (drop i waves)) ≡ false
known_less upto processes waves i p w h k e = ap (list_all (λ wave. eqb wave.clock upto)) (driven_rest processes waves i p w h k) ∙ behind_at upto (is_given (get_or processes i p).rule) (get_or waves i w) _ e
