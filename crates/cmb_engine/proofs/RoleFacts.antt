-- Roles of nets, and the levels that an engine has of them.
use Rattle.std.proofs.Common.{◌≡◌, ℕ, zero, suc, ◌+◌, ◌<◌, ◌≤◌, ◌⊎◌, inl, inr, Bool, true, false, List, [], ◌∷◌, ◌++◌, length, get_or, set, take, refl, sym, ap, subst, ◌∙◌, arith}
use Rattle.std.specs.Prelude.{Contains}
use Rattle.std.proofs.lemmas.Bool.{cases_Bool, cases_eq, cases_lt, false≢true}
use Rattle.std.proofs.lemmas.List.{get_or_past, length-map, take_more}
use Rattle.std.proofs.lemmas.List.Elements.{Contains-get_or}
use Rattle.cmb_wave.specs.declared.level.Level.TheVariants.{Zero}
use Rattle.cmb_netlist.specs.Netlist.{driver_of, pins_of, IsNetlist}
use Rattle.cmb_design_model.specs.Design.{Design}
use Rattle.cmb_design_model.specs.Exact.{nets_of}
use Rattle.cmb_design_model.specs.Value.{value}
use Rattle.cmb_engine.specs.Inner.Roles.{AreOf, Gives, is_driven, is_given, is_absent, driven_of, role_of, drives, gives, lacks, level_in}
use Rattle.cmb_words.specs.declared.changed.Changed.{Changed}
use Rattle.cmb_words.specs.Changes.{IsStill, TellsNet, levels_up_to}
use Rattle.cmb_words.proofs.StillFacts.{still-agrees, ticks-still}
use Rattle.cmb_words.proofs.TellsFacts.{tells-same}
use Rattle.cmb_engine.specs.Inner.Collects.{IsWanted}
use Rattle.cmb_engine.specs.Shares.{EachChanges, IsDriven, IsGiven, TellsAll, is_told}
use Rattle.cmb_engine.specs.declared.role.Role.{Role}
use Rattle.cmb_engine.specs.declared.role.Role.TheVariants.{Driven, Given, Absent}
use Rattle.cmb_engine.proofs.BitFacts.{told-has}
use Rattle.cmb_engine.proofs.NoteFacts.{taken-before, taken-cases, taken-last}

pub driven-is : (role : Role) → is_driven role ≡ true → role ≡ Driven
driven-is Driven h = refl
driven-is Given h = absurd (false≢true h)
driven-is Absent h = absurd (false≢true h)

driven-there : (role : Role) → is_driven role ≡ true → is_absent role ≡ false
driven-there Driven h = refl
driven-there Given h = absurd (false≢true h)
driven-there Absent h = absurd (false≢true h)

given-there : (role : Role) → is_given role ≡ true → is_absent role ≡ false
given-there Driven h = refl
given-there Given h = refl
given-there Absent h = absurd (false≢true h)

given-undriven : (role : Role) → is_given role ≡ true → is_driven role ≡ false
given-undriven Driven h = absurd (false≢true h)
given-undriven Given h = refl
given-undriven Absent h = refl

rest-absent : (role : Role) → is_driven role ≡ false → is_given role ≡ false → is_absent role ≡ true
rest-absent Driven h g = absurd (false≢true (sym h))
rest-absent Given h g = absurd (false≢true (sym g))
rest-absent Absent h g = refl

pub not-absent : (role : Role) → (role ≡ Absent → ⊥) → is_absent role ≡ false
not-absent Driven h = refl
not-absent Given h = refl
not-absent Absent h = absurd (h refl)

-- driven and given nets are known, and the others absent
pub driven-known : (roles : List Role) (net : ℕ) → drives roles net ≡ true → lacks roles net ≡ false
driven-known roles net h = driven-there (role_of roles net) h

pub given-known : (roles : List Role) (net : ℕ) → gives roles net ≡ true → lacks roles net ≡ false
given-known roles net h = given-there (role_of roles net) h

pub given-other : (roles : List Role) (net : ℕ) → gives roles net ≡ true → drives roles net ≡ false
given-other roles net h = given-undriven (role_of roles net) h

pub other-lacks : (roles : List Role) (net : ℕ) → drives roles net ≡ false → gives roles net ≡ false → lacks roles net ≡ true
other-lacks roles net h g = rest-absent (role_of roles net) h g

pub level-present : (design : Design) (roles : List Role) (net tick : ℕ) → lacks roles net ≡ false → level_in design roles net tick ≡ value design net tick
unfolding value
level-present design roles net tick known = rw known refl

pub level-absent : (design : Design) (roles : List Role) (net tick : ℕ) → lacks roles net ≡ true → level_in design roles net tick ≡ Zero
level-absent design roles net tick absent = rw absent refl

-- ---- which nets are driven

pub driven-at : (roles : List Role) (net : ℕ) → net < length roles → get_or (driven_of roles) net false ≡ drives roles net
driven-at [] net small = absurd (omega arith)
driven-at (role ∷ roles) zero small = refl
driven-at (role ∷ roles) (suc net) small = driven-at roles net (omega arith)

pub driven-inside : (driven : List Bool) (net : ℕ) → IsDriven driven net → net < length driven
driven-inside driven net is = go (cases_lt net (length driven))
  where
    go : (net < length driven) ⊎ (length driven ≤ net) → net < length driven
    go (inl l) = l
    go (inr l) = absurd (false≢true (sym (get_or_past driven net false l) ∙ is))

-- a given net is one of those that have roles
pub given-inside : (roles : List Role) (net : ℕ) → gives roles net ≡ true → net < length roles
given-inside roles net given = go (cases_lt net (length roles))
  where
    go : (net < length roles) ⊎ (length roles ≤ net) → net < length roles
    go (inl l) = l
    go (inr l) = absurd (false≢true (sym (ap is_given (get_or_past roles net Driven l)) ∙ given))

-- ---- a net gets another role

role-set_same : (roles : List Role) (net : ℕ) (role : Role) → net < length roles → role_of (set roles net role) net ≡ role
role-set_same [] net role small = absurd (omega arith)
role-set_same (r ∷ roles) zero role small = refl
role-set_same (r ∷ roles) (suc net) role small = role-set_same roles net role (omega arith)

role-set_other : (roles : List Role) (net : ℕ) (role : Role) (other : ℕ) → (other ≡ net → ⊥) → role_of (set roles net role) other ≡ role_of roles other
role-set_other [] net role other h = refl
role-set_other (r ∷ roles) zero role zero h = absurd (h refl)
role-set_other (r ∷ roles) zero role (suc other) h = refl
role-set_other (r ∷ roles) (suc net) role zero h = refl
role-set_other (r ∷ roles) (suc net) role (suc other) h = role-set_other roles net role other (λ e. h (ap suc e))

driven-set : (roles : List Role) (net : ℕ) (role : Role) → net < length roles → is_driven role ≡ drives roles net → driven_of (set roles net role) ≡ driven_of roles
driven-set [] net role small same = absurd (omega arith)
driven-set (r ∷ roles) zero role small same = ap (λ (one : Bool). one ∷ driven_of roles) same
driven-set (r ∷ roles) (suc net) role small same = ap (λ (rest : List Bool). is_driven r ∷ rest) (driven-set roles net role (omega arith) same)

absent-undriven : (role : Role) → is_absent role ≡ true → is_driven role ≡ false
absent-undriven Driven h = absurd (false≢true h)
absent-undriven Given h = refl
absent-undriven Absent h = refl

pub only-among : (net other : ℕ) → Contains (net ∷ []) other → net ≡ other
only-among net other among = go among.0 among.1 among.2
  where
    go : (k : ℕ) → k < length (net ∷ []) → get_or (net ∷ []) k other ≡ other → net ≡ other
    go zero l e = e
    go (suc k) l e = absurd (omega arith)

-- ---- nets are given

pub gives-nothing : (roles : List Role) → Gives roles roles []
gives-nothing roles = record {
  same = refl;
  given = λ net among. absurd (omega (arith, among.1));
  kept = λ net h. h;
  only = λ net h. inl h;
}

-- a net that isn't absent stays as it is
pub gives-known : (roles : List Role) (net : ℕ) → lacks roles net ≡ false → Gives roles roles (net ∷ [])
gives-known roles net known = record {
  same = refl;
  given = λ other among. ap (lacks roles) (sym (only-among net other among)) ∙ known;
  kept = λ other h. h;
  only = λ other h. inl h;
}

pub gives-written : (roles : List Role) (net : ℕ) → net < length roles → lacks roles net ≡ true → Gives roles (set roles net Given) (net ∷ [])
gives-written roles net small absent = record {
  same = driven-set roles net Given small (sym (absent-undriven (role_of roles net) absent));
  given = λ other among. ap (lacks (set roles net Given)) (sym (only-among net other among)) ∙ ap is_absent (role-set_same roles net Given small);
  kept = λ other h. kept other h (cases_eq other net);
  only = λ other h. only other h (cases_eq other net);
}
  where
    kept : (other : ℕ) → lacks roles other ≡ false → (other ≡ net) ⊎ (other ≡ net → ⊥) → lacks (set roles net Given) other ≡ false
    kept other h (inl e) = ap (lacks (set roles net Given)) e ∙ ap is_absent (role-set_same roles net Given small)
    kept other h (inr n) = ap is_absent (role-set_other roles net Given other n) ∙ h

    only : (other : ℕ) → gives (set roles net Given) other ≡ true → (other ≡ net) ⊎ (other ≡ net → ⊥) → (gives roles other ≡ true) ⊎ Contains (net ∷ []) other
    only other h (inl e) = inr (subst (λ (n : ℕ). Contains (net ∷ []) n) (sym e) (Contains-get_or (net ∷ []) 0 net (omega arith)))
    only other h (inr n) = inl (sym (ap is_given (role-set_other roles net Given other n)) ∙ h)

pub gives-more : (old between new : List Role) (nets : List ℕ) (k d : ℕ) → k < length nets → Gives old between (take k nets) → Gives between new (get_or nets k d ∷ [])
    → Gives old new (take (k + 1) nets)
gives-more old between new nets k d small first second = record {
  same = second.same ∙ first.same;
  given = λ net among. given net (taken-cases nets k d small net among);
  kept = λ net h. second.kept net (first.kept net h);
  only = λ net h. only net (second.only net h);
}
  where
    given : (net : ℕ) → Contains (take k nets) net ⊎ (get_or nets k d ≡ net) → lacks new net ≡ false
    given net (inl early) = second.kept net (first.given net early)
    given net (inr e) = ap (lacks new) (sym e) ∙ second.given (get_or nets k d) (Contains-get_or (get_or nets k d ∷ []) 0 (get_or nets k d) (omega arith))

    early_only : (net : ℕ) → (gives old net ≡ true) ⊎ Contains (take k nets) net → (gives old net ≡ true) ⊎ Contains (take (k + 1) nets) net
    early_only net (inl h) = inl h
    early_only net (inr among) = inr (taken-before nets k d small net among)

    only : (net : ℕ) → (gives between net ≡ true) ⊎ Contains (get_or nets k d ∷ []) net → (gives old net ≡ true) ⊎ Contains (take (k + 1) nets) net
    only net (inl h) = early_only net (first.only net h)
    only net (inr among) = inr (subst (λ (n : ℕ). Contains (take (k + 1) nets) n) (only-among (get_or nets k d) net among) (taken-last nets k d small))

pub gives-length : (old new : List Role) (nets : List ℕ) → Gives old new nets → length new ≡ length old
gives-length old new nets gave = sym (length-map new is_driven) ∙ ap length gave.same ∙ length-map old is_driven

-- ---- the roles of a design's nets, where what the first driven ones read is given

pub record AreSoFar (design : Design) (driven : List Bool) (upto : ℕ) (roles : List Role) : Type 0 where
  pub same : driven_of roles ≡ driven
  pub known : (net operand : ℕ) → net < upto → IsDriven driven net → Contains (pins_of (driver_of design.netlist net)) operand → lacks roles operand ≡ false
  pub gifts : (net : ℕ) → gives roles net ≡ true → IsGiven design driven net

module _ (design : Design) (driven : List Bool) where
  pub roles-none : (roles : List Role) → driven_of roles ≡ driven → ((net : ℕ) → gives roles net ≡ false) → AreSoFar design driven 0 roles
  roles-none roles same none = record {
    same = same;
    known = λ net operand small. absurd (omega arith);
    gifts = λ net given. absurd (false≢true (sym (none net) ∙ given));
  }

  -- a net that isn't driven
  pub roles-passed : (roles : List Role) (net : ℕ) → get_or driven net false ≡ false → AreSoFar design driven net roles → AreSoFar design driven (net + 1) roles
  roles-passed roles net isnt so_far = record {
    same = so_far.same;
    known = λ other operand small is read. known other operand small is read (cases_lt other net);
    gifts = so_far.gifts;
  }
    where
      known : (other operand : ℕ) → other < net + 1 → IsDriven driven other → Contains (pins_of (driver_of design.netlist other)) operand → (other < net) ⊎ (net ≤ other) → lacks roles operand ≡ false
      known other operand small is read (inl l) = so_far.known other operand l is read
      known other operand small is read (inr l) = let e : net ≡ other = omega (arith, l, small) in absurd (false≢true (sym isnt ∙ ap (λ (n : ℕ). get_or driven n false) e ∙ is))

  -- and one that is
  pub roles-more : (old new : List Role) (net : ℕ) → IsDriven driven net → Gives old new (pins_of (driver_of design.netlist net)) → AreSoFar design driven net old → AreSoFar design driven (net + 1) new
  roles-more old new net is gave so_far = record {
    same = same;
    known = λ other operand small driving read. known other operand small driving read (cases_lt other net);
    gifts = λ other given. gifts other given (gave.only other given);
  }
    where
      same : driven_of new ≡ driven
      same = gave.same ∙ so_far.same

      known : (other operand : ℕ) → other < net + 1 → IsDriven driven other → Contains (pins_of (driver_of design.netlist other)) operand → (other < net) ⊎ (net ≤ other) → lacks new operand ≡ false
      known other operand small driving read (inl l) = gave.kept operand (so_far.known other operand l driving read)
      known other operand small driving read (inr l) =
          let e : other ≡ net = omega (arith, l, small) in
          gave.given operand (subst (λ (n : ℕ). Contains (pins_of (driver_of design.netlist n)) operand) e read)

      gifts : (other : ℕ) → gives new other ≡ true → (gives old other ≡ true) ⊎ Contains (pins_of (driver_of design.netlist net)) other → IsGiven design driven other
      gifts other given (inl before) = so_far.gifts other before
      gifts other given (inr read) = record {
        undriven = ap (λ (ds : List Bool). get_or ds other false) (sym same) ∙ driven-at new other (given-inside new other given) ∙ given-other new other given;
        reader = net;
        reader_driven = is;
        read = read;
      }

  pub roles-all : (roles : List Role) (upto : ℕ) → IsNetlist design.netlist → nets_of design ≤ upto → length driven ≡ nets_of design → AreSoFar design driven upto roles
      → AreOf design driven roles
  roles-all roles upto netlist all count so_far = record {
    netlist = netlist;
    count = len;
    same = so_far.same;
    lawful = record {
      few = omega (arith, len);
      known = λ net operand small driving read.
          so_far.known net operand (omega (arith, small, all))
          (ap (λ (ds : List Bool). get_or ds net false) (sym so_far.same) ∙ driven-at roles net (omega (arith, small, len)) ∙ driving) read;
    };
    gifts = so_far.gifts;
  }
    where
      len : length roles ≡ nets_of design
      len = sym (length-map roles is_driven) ∙ ap length so_far.same ∙ count

-- ---- the first roles

pub gives-push : (roles : List Role) (role : Role) → ((net : ℕ) → gives roles net ≡ false) → is_given role ≡ false → (net : ℕ) → gives (roles ++ role ∷ []) net ≡ false
gives-push [] role none isnt zero = isnt
gives-push [] role none isnt (suc net) = refl
gives-push (r ∷ roles) role none isnt zero = none 0
gives-push (r ∷ roles) role none isnt (suc net) = gives-push roles role (λ n. none (suc n)) isnt net

driven-push : (roles : List Role) (role : Role) → driven_of (roles ++ role ∷ []) ≡ driven_of roles ++ is_driven role ∷ []
driven-push [] role = refl
driven-push (r ∷ roles) role = ap (λ (rest : List Bool). is_driven r ∷ rest) (driven-push roles role)

pub roles-push : (roles next : List Role) (role : Role) (driven : List Bool) (k : ℕ) (d : Bool) → k < length driven → next ≡ roles ++ role ∷ [] → is_driven role ≡ get_or driven k d
    → driven_of roles ≡ take k driven → driven_of next ≡ take (k + 1) driven
roles-push roles next role driven k d small pushed is so_far =
    ap driven_of pushed ∙ driven-push roles role
    ∙ ap (λ (early : List Bool). early ++ is_driven role ∷ []) so_far
    ∙ ap (λ (last : Bool). take k driven ++ last ∷ []) is
    ∙ sym (take_more driven k d small)

-- ---- where a share is driven

-- a driven net is one of the design's
pub driven-net : (design : Design) (roles : List Role) → AreOf design (driven_of roles) roles → (net : ℕ) → IsDriven (driven_of roles) net → (net < nets_of design) × (drives roles net ≡ true)
driven-net design roles are net is =
    let inside : net < length roles = omega (arith, driven-inside (driven_of roles) net is, length-map roles is_driven) in
    (omega (arith, inside, are.lawful.few), sym (driven-at roles net inside) ∙ is)

pub driven-level : (design : Design) (roles : List Role) → AreOf design (driven_of roles) roles → (net tick : ℕ) → IsDriven (driven_of roles) net
    → level_in design roles net tick ≡ value design net tick
driven-level design roles are net tick is = level-present design roles net tick (driven-known roles net (driven-net design roles are net is).1)

-- an absent net doesn't change
absent-still : (design : Design) (roles : List Role) (from to : ℕ) (one : Changed) → 1 ≤ from → TellsNet (level_in design roles) from to one → lacks roles one.net ≡ true → IsStill (levels_up_to to one.word) from to
absent-still design roles from to one begun tells lacking =
    tells.changes ∙ ticks-still (level_in design roles one.net) from to begun (λ tick late below. rw lacking refl)

-- so a word that changes is of a net that is present
moved-present : (design : Design) (roles : List Role) (from to : ℕ) (one : Changed) → 1 ≤ from → TellsNet (level_in design roles) from to one → (IsStill (levels_up_to to one.word) from to → ⊥) → lacks roles one.net ≡ false
moved-present design roles from to one begun tells moves = go (cases_Bool (lacks roles one.net))
  where
    go : (lacks roles one.net ≡ true) ⊎ (lacks roles one.net ≡ false) → lacks roles one.net ≡ false
    go (inl lacking) = absurd (moves (absent-still design roles from to one begun tells lacking))
    go (inr present) = present

pub share-tells : (design : Design) (roles : List Role) (wanted : List ℕ) (from to : ℕ) (changed : List Changed) → 1 ≤ from → AreOf design (driven_of roles) roles → EachChanges from to changed
    → TellsAll (IsWanted wanted (nets_of design)) (level_in design roles) from to changed
    → TellsAll (λ net. IsDriven (driven_of roles) net × (is_told wanted net ≡ true)) (value design) from to changed
share-tells design roles wanted from to changed begun are moves tells = record {
  words = λ k d small.
      let one = get_or changed k d in
      let present = moved-present design roles from to one begun (tells.words k d small) (moves k d small) in
      tells-same (level_in design roles) (value design) from to one one refl (λ tick. level-present design roles one.net tick present) (tells.words k d small);
  others = λ net owed none.
      still-agrees (level_in design roles net) (value design net) from to (λ tick late below. driven-level design roles are net tick owed.0)
      (tells.others net ((driven-net design roles are net owed.0).0, sym (told-has wanted net) ∙ owed.1) none);
}
