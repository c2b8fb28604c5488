-- A telegram that was put on the air has its octets there from then on, or is lost.
use Rattle.std.proofs.Common.{◌≡◌, inl, inr, ℕ, zero, suc, ◌-◌, ◌<◌, List, [], ◌∷◌, ◌++◌, length, set, get_or, Bool, true, false, Option, Some, None, refl, sym, ap, ◌∙◌, subst, arith, length-append}
use Rattle.std.specs.Prelude.{slice_get, if◌then◌else◌}
use Rattle.std.proofs.lemmas.Bool.{cases_eq}
use Rattle.std.proofs.lemmas.List.{get_or_append_left, get_or_at, get_or-set_same, get_or-set_other, length-set}
use Rattle.std.proofs.lemmas.Option.{get_or_from_slice_get}
use Rattle.script_text.specs.declared.event.Event.{Event}
use Rattle.script_text.specs.declared.event.Event.TheVariants as event
use Rattle.install_run.specs.Machine.{TelegramAt, WorldAt, put_on_air, telegram_in, heard, lost_in}
use Rattle.install_run.specs.Runs.{after, world_after}
use Rattle.install_run.proofs.Sounding.{some_same}

-- the telegram at this place has these octets
pub record HasOctets (air : List TelegramAt) (place : ℕ) (octets : List ℕ) : Type 0 where
  pub below : place < length air
  pub octets_are : (get_or air place (put_on_air [])).octets ≡ octets

pub put_there : (air : List TelegramAt) (octets : List ℕ)
    → HasOctets (air ++ put_on_air octets ∷ []) (length air) octets
put_there air octets =
    let size = length-append air (put_on_air octets ∷ []) in
    record {
      below = omega (arith, size);
      octets_are = ap (λ (t : TelegramAt). t.octets)
          (get_or_at air (put_on_air octets) [] (put_on_air []) (length air) refl);
    }

more : (air others : List TelegramAt) (place : ℕ) (octets : List ℕ) → HasOctets air place octets
    → HasOctets (air ++ others) place octets
more air others place octets has =
    let below = has.below in
    let size = length-append air others in
    record {
      below = omega (arith, below, size);
      octets_are = ap (λ (t : TelegramAt). t.octets) (get_or_append_left air others (put_on_air []) place below)
          ∙ has.octets_are;
    }

lost_at : (air : List TelegramAt) (lost place : ℕ) (t : TelegramAt) (octets : List ℕ) → slice_get air lost ≡ Some t
    → HasOctets air place octets → HasOctets (set air lost (record t { is_lost = true })) place octets
lost_at air lost place t octets is has =
    let gone : TelegramAt = record t { is_lost = true } in
    let below = has.below in
    let size = length-set air lost gone in
    record {
      below = omega (arith, below, size);
      octets_are = elim (cases_eq place lost) [
        | inl same ↦
            let was : get_or air place (put_on_air []) ≡ t =
            ap (λ p. get_or air p (put_on_air [])) same ∙ get_or_from_slice_get air lost t (put_on_air []) is in
            ap (λ p. (get_or (set air lost gone) p (put_on_air [])).octets) same
            ∙ ap (λ (t : TelegramAt). t.octets)
            (get_or-set_same air lost gone (put_on_air []) (subst (λ p. p < length air) same below))
            ∙ ap (λ (t : TelegramAt). t.octets) (sym was) ∙ has.octets_are
        | inr apart ↦
            ap (λ (t : TelegramAt). t.octets) (get_or-set_other air lost place gone (put_on_air []) apart)
            ∙ has.octets_are
      ];
    }

lost_by : (air : List TelegramAt) (lost place : ℕ) (found : Option TelegramAt) (octets : List ℕ)
    → slice_get air lost ≡ found → HasOctets air place octets → HasOctets (lost_in air (suc lost) found) place octets
lost_by air lost place None octets is has = has
lost_by air lost place (Some t) octets is has =
    let back : suc lost - 1 ≡ lost = omega arith in
    subst (λ l. HasOctets (set air l (record t { is_lost = true })) place octets) (sym back)
    (lost_at air lost place t octets is has)

lost : (air : List TelegramAt) (number place : ℕ) (octets : List ℕ) → HasOctets air place octets
    → HasOctets (lost_in air number (telegram_in air number)) place octets
lost air zero place octets has = has
lost air (suc number) place octets has = lost_by air number place (slice_get air number) octets refl has

lasts_one : (e : Event) (w : WorldAt) (place : ℕ) (octets : List ℕ) → HasOctets w.air place octets
    → HasOctets (after e w).air place octets
lasts_one (event.Set node object value) w place octets has = more w.air _ place octets has
lasts_one (event.Send node object service) w place octets has = more w.air _ place octets has
lasts_one (event.ToolSend node to apdu) w place octets has = more w.air _ place octets has
lasts_one (event.Ask node to challenge) w place octets has = more w.air _ place octets has
lasts_one (event.Deliver telegram node) w place octets has = more w.air _ place octets has
lasts_one (event.Lose telegram) w place octets has = lost w.air telegram place octets has
lasts_one (event.Inject injected) w place octets has = more w.air _ place octets has
lasts_one (event.Off node) w place octets has = more w.air _ place octets has
lasts_one (event.On node) w place octets has = more w.air _ place octets has
lasts_one (event.Cut node write torn) w place octets has = more w.air _ place octets has
lasts_one (event.Fault node write torn) w place octets has = more w.air _ place octets has

pub lasts : (events : List Event) (w : WorldAt) (place : ℕ) (octets : List ℕ) → HasOctets w.air place octets
    → HasOctets (world_after events w).air place octets
lasts [] w place octets has = has
lasts (e ∷ events) w place octets has = lasts events (after e w) place octets (lasts_one e w place octets has)

-- ---- what is heard

unless_lost : (gone : Bool) (octets those : List ℕ) → (if gone then None else Some octets) ≡ Some those
    → octets ≡ those
unless_lost true octets those is = absurd cc
unless_lost false octets those is = some_same octets those is

heard_by : (air : List TelegramAt) (place : ℕ) (found : Option TelegramAt) (octets those : List ℕ)
    → slice_get air place ≡ found → HasOctets air place octets → heard found ≡ Some those → those ≡ octets
heard_by air place None octets those is has hears = absurd cc
heard_by air place (Some t) octets those is has hears =
    sym (unless_lost t.is_lost t.octets those hears)
    ∙ ap (λ (t : TelegramAt). t.octets) (sym (get_or_from_slice_get air place t (put_on_air []) is)) ∙ has.octets_are

pub heard_is : (air : List TelegramAt) (place : ℕ) (octets those : List ℕ) → HasOctets air place octets
    → heard (telegram_in air (suc place)) ≡ Some those → those ≡ octets
heard_is air place octets those has hears = heard_by air place (slice_get air place) octets those refl has hears
