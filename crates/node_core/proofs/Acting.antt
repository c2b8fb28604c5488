-- The raise of a mark, and then all else that a telegram does: the two come together as one transition.
use Rattle.std.specs.Prelude.{◌≢◌}
use Rattle.std.proofs.Common.{◌≡◌, ℕ, ◌++◌, List, [], ◌∷◌, Option, Some, None, subst, ap, ◌∙◌}
use Rattle.cemi_frames.specs.Frames.{Telegram}
use Rattle.knx_base.specs.declared.address.IndAddr.{IndAddr}
use Rattle.key_tables.specs.declared.types.Lane.{Lane}
use Rattle.judge_rules.specs.declared.verdict.Verdict.{Verdict}
use Rattle.judge_rules.specs.Checks.{Kept}
use Rattle.nvm_model.specs.Nvm.{State}
use Rattle.nvm_model.specs.declared.fault.NvmFault.{NvmFault}
use Rattle.seq_store.specs.Runs.{Raise, Runs}
use Rattle.seq_store.proofs.Running.{runs_go_on, runs_stop}
use Rattle.node_core.specs.declared.outcome.Addressee.{Addressee}
use Rattle.node_core.specs.declared.outcome.Outcome.{Outcome}
use Rattle.node_core.specs.Standing.{ConfigState, Standing, raised}
use Rattle.node_core.specs.Transition.{behind}
use Rattle.node_core.specs.Receiving.{kept_raises, verdict_transition, lane_transition, telegram_transition}
use Rattle.node_core.specs.Node.{NodeState, Does}

module _ {answer : Option NvmFault} {a b c : State} {p q r : ℕ → List ℕ → Type 0} {place place' : Option ℕ}
    {kept kept' : Kept} (s : Standing)
    (same_place : place ≡ place') (same_kept : kept ≡ kept') where
  pub kept_then_acts : (s' : Standing) (config config' : ConfigState) (source : IndAddr) (to : Addressee) (lane : Lane)
      (apdu apdu' : List ℕ) (v v' : Verdict)
      → config' ≡ config → s' ≡ raised (kept_raises place kept) s → apdu' ≡ apdu → v' ≡ v
      → Runs s.numbers (kept_raises place kept) None a b p q → Runs s'.numbers
      (verdict_transition config' s' source to lane apdu' v').raises answer b c q r
      → Runs s.numbers (kept_raises place' kept' ++ (verdict_transition config (raised (kept_raises place' kept') s)
      source to lane apdu v).raises) answer a c p r
  kept_then_acts s' config config' source to lane apdu apdu' v v' same_config same_standing same_apdu same_verdict first
      then =
      let P : ConfigState → Standing → List ℕ → Verdict → Type 0 =
      λ config s apdu v. Runs s.numbers (verdict_transition config s source to lane apdu v).raises answer b c q r in
      let xs = kept_raises place kept in
      let at_once : P config (raised xs s) apdu v =
      subst (λ v. P config (raised xs s) apdu v) same_verdict (subst (λ o. P config (raised xs s) o v') same_apdu
      (subst (λ s. P config s apdu' v') same_standing (subst (λ config. P config s' apdu' v') same_config then))) in
      subst (λ place. Runs s.numbers (kept_raises place kept' ++ (verdict_transition config
      (raised (kept_raises place kept') s) source to lane apdu v).raises) answer a c p r) same_place
      (subst (λ kept. Runs s.numbers (kept_raises place kept ++ (verdict_transition config
      (raised (kept_raises place kept) s) source to lane apdu v).raises) answer a c p r) same_kept
      (runs_go_on first at_once))

pub kept_then_stops : {fault : NvmFault} {a b : State} {p q : ℕ → List ℕ → Type 0} {place place' : Option ℕ}
    {kept kept' : Kept} (s : Standing)
    → place ≡ place' → kept ≡ kept' → (ys : List Raise)
    → Runs s.numbers (kept_raises place kept) (Some fault) a b p q
    → Runs s.numbers (kept_raises place' kept' ++ ys) (Some fault) a b p q
kept_then_stops {fault = fault} {a = a} {b = b} {p = p} {q = q} {place = place} {kept' = kept'} s same_place same_kept
    ys first =
    subst (λ place. Runs s.numbers (kept_raises place kept' ++ ys) (Some fault) a b p q) same_place
    (subst (λ kept. Runs s.numbers (kept_raises place kept ++ ys) (Some fault) a b p q) same_kept (runs_stop ys first))

more_is_some : (xs ys : List Raise) → ys ≢ [] → (xs ++ ys) ≢ []
more_is_some [] ys some = some
more_is_some (x ∷ xs) ys some = λ is. absurd cc

-- The same of what a call does.
pub kept_then_does : {M : Type 0} {answer : Option NvmFault} {result : Outcome} {old mid new : NodeState M}
    {out out' : List ℕ} {place place' : Option ℕ} {kept kept' : Kept}
    → place ≡ place' → kept ≡ kept'
    → (source : IndAddr) (to : Addressee) (lane : Lane) (apdu apdu' : List ℕ) (v v' : Verdict)
    → mid.config ≡ old.config → mid.standing ≡ raised (kept_raises place kept) old.standing → apdu' ≡ apdu → v' ≡ v
    → Does (verdict_transition mid.config mid.standing source to lane apdu' v') answer result mid new out out'
    → Does (behind (kept_raises place' kept') (verdict_transition old.config
    (raised (kept_raises place' kept') old.standing) source to lane apdu v)) answer result old new out out'
kept_then_does {answer = answer} {result = result} {old = old} {mid = mid} {new = new} {out = out} {out' = out'}
    {place = place} {place' = place'} {kept = kept} {kept' = kept'}
    same_place same_kept source to lane apdu apdu' v v' same_config same_standing same_apdu same_verdict then =
    let P : ConfigState → Standing → List ℕ → Verdict → Type 0 =
    λ config s apdu v. Does (verdict_transition config s source to lane apdu v) answer result mid new out out' in
    let standing : mid.standing ≡ raised (kept_raises place' kept') old.standing =
    same_standing ∙ ap (λ p. raised (kept_raises p kept) old.standing) same_place
    ∙ ap (λ k. raised (kept_raises place' k) old.standing) same_kept in
    let at_once : P old.config (raised (kept_raises place' kept') old.standing) apdu v =
    subst (λ v. P old.config (raised (kept_raises place' kept') old.standing) apdu v) same_verdict
    (subst (λ o. P old.config (raised (kept_raises place' kept') old.standing) o v') same_apdu
    (subst (λ s. P old.config s apdu' v') standing (subst (λ config. P config mid.standing apdu' v') same_config
    then))) in
    record {
      done = λ ok. let d = at_once.done ok in record {
        outcome_is = d.outcome_is;
        standing_is = d.standing_is;
        out_is = d.out_is;
        runs = d.runs;
      };
      stopped = λ is. let d = at_once.stopped is in record {
        was_raising = more_is_some (kept_raises place' kept') _ d.was_raising;
        values = d.values ∙ ap (λ (s : Standing). s.values) same_standing;
        pending = d.pending ∙ ap (λ (s : Standing). s.pending) same_standing;
        out_is = d.out_is;
        stands = d.stands;
      };
      config = at_once.config ∙ same_config;
    }

-- ---- a telegram with this lane does what it does on that

pub runs_on_lane : {answer : Option NvmFault} {a b : State} {p q : ℕ → List ℕ → Type 0} {lane : Lane}
    {found : Option Lane} (c : ConfigState) (s : Standing) (t : Telegram) (to : Addressee)
    → Some lane ≡ found → Runs s.numbers (lane_transition c s to t lane).raises answer a b p q
    → Runs s.numbers (telegram_transition c s t to found).raises answer a b p q
runs_on_lane {answer = answer} {a = a} {b = b} {p = p} {q = q} c s t to is first =
    subst (λ found. Runs s.numbers (telegram_transition c s t to found).raises answer a b p q) is first

pub does_on_lane : {M : Type 0} {answer : Option NvmFault} {result : Outcome} {old new : NodeState M}
    {out out' : List ℕ} {lane : Lane} {found : Option Lane} (c : ConfigState) (s : Standing) (t : Telegram)
    (to : Addressee)
    → Some lane ≡ found → Does (lane_transition c s to t lane) answer result old new out out'
    → Does (telegram_transition c s t to found) answer result old new out out'
does_on_lane {answer = answer} {result = result} {old = old} {new = new} {out = out} {out' = out'} c s t to is first =
    subst (λ found. Does (telegram_transition c s t to found) answer result old new out out') is first
