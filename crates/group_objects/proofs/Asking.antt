-- A PDU is taken for the effect that it asks for, and for no other.
use Rattle.std.proofs.Common.{◌≡◌, ℕ, ◌+◌, ◌<◌, ◌==◌, Bool, true, false, cond, List, [], ◌∷◌, length, nat_lt, unwrap_or, Result, Ok, Err, refl, sym, ap, subst, ◌∙◌, ⊎_elim, arith}
use Rattle.std.specs.Result.{result_ok}
use Rattle.std.proofs.lemmas.Bool.{lt-ltb, eq-eqb, eqb-true, true≢false}
use Rattle.plain_apdu.specs.declared.object.BadObject.{BadObject}
use Rattle.plain_apdu.specs.declared.apdu.BadApdu.{BadApdu}
use Rattle.plain_apdu.specs.declared.service.Service.{Service}
use Rattle.plain_apdu.specs.declared.service.Service.TheVariants.{GroupValueRead, GroupValueResponse, GroupValueWrite}
use Rattle.plain_apdu.specs.Apdu.{Inner, apci_of, inner_of, inner}
use Rattle.group_objects.specs.declared.row.ObjectRow.{ObjectRow}
use Rattle.group_objects.specs.declared.row.Effect.{Effect}
use Rattle.group_objects.specs.declared.row.Effect.TheVariants as effect
use Rattle.group_objects.specs.Value.{ObjectValue, apdu_size, bits_value, same_form, sized_value, value_in}
use Rattle.group_objects.specs.Apdus.{Carries, service_in, value_said}
use Rattle.group_objects.specs.Effects.{AsksFor, IsExact, IsGroupApdu, KeepsForm, accepted, effect_of, if_allowed, is_allowed, with_value}

-- ---- what octets say

same_ok : {A E : Type 0} (a b : A) → (let x : Result A E = Ok a in x) ≡ Ok b → a ≡ b
same_ok a b same = ap (λ r. unwrap_or (result_ok r) a) same

said_where : (upper : Bool) (fault : BadApdu) (said found : Inner) → cond upper (Ok found) (Err fault) ≡ Ok said
    → said ≡ found
said_where true fault said found reads = sym (same_ok found said reads)
said_where false fault said found reads = absurd cc

said_is : (first second : ℕ) (content : List ℕ) (said : Inner) → inner_of (first ∷ second ∷ content) ≡ Ok said
    → said ≡ inner (apci_of first second) content
unfolding inner_of
said_is first second content said reads =
    said_where (nat_lt first 4) _ said (inner (apci_of first second) content) reads

says : (first second : ℕ) (content : List ℕ) → first < 4
    → inner_of (first ∷ second ∷ content) ≡ Ok (inner (apci_of first second) content)
unfolding inner_of
says first second content upper = rw (lt-ltb first 4 upper) refl

-- ---- a PDU that carries a value has it

sized_by : (is_bits form_bits : Bool) (octets form_octets : List ℕ) (first second : ℕ) (content : List ℕ)
    → (let value : ObjectValue = record { is_bits = is_bits; octets = octets } in
    let form : ObjectValue = record { is_bits = form_bits; octets = form_octets } in
    value_said is_bits (inner (apci_of first second) content) ≡ value → (is_bits ≡ true → content ≡ [])
    → same_form value form ≡ true
    → sized_value form (first ∷ second ∷ content) ≡ Ok value)
sized_by true true octets form_octets first second content is alone same =
    rw (alone refl) (ap (λ value. Ok value) (ap bits_value (omega arith) ∙ is))
sized_by true false octets form_octets first second content is alone same = absurd cc
sized_by false true octets form_octets first second content is alone same = absurd cc
sized_by false false octets form_octets first second content is alone same =
    let size : length (first ∷ second ∷ content) ≡ length form_octets + 2 =
    omega (arith, ap (λ value. length value.octets) is, eqb-true (length octets) (length form_octets) same) in
    rw (eq-eqb (length (first ∷ second ∷ content)) (length form_octets + 2) size) (ap (λ value. Ok value) is)

pub sized_carried : (service : Service) (form value : ObjectValue) (apdu : List ℕ) → Carries service value apdu
    → same_form value form ≡ true
    → sized_value form apdu ≡ Ok value
unfolding inner_of
sized_carried service form value [] carries same = let reads = carries.reads in absurd cc
sized_carried service form value (_ ∷ []) carries same = let reads = carries.reads in absurd cc
sized_carried service form value (first ∷ second ∷ content) carries same =
    let is = said_is first second content carries.said carries.reads in
    sized_by value.is_bits form.is_bits value.octets form.octets first second content
    (ap (value_said value.is_bits) (sym is) ∙ carries.value_is)
    (λ bits. ap (λ (said : Inner). said.content) (sym is) ∙ carries.alone bits) same

pub service_carried : (service : Service) (value : ObjectValue) (apdu : List ℕ) → Carries service value apdu
    → service_in apdu ≡ service
unfolding inner_of
service_carried service value [] carries = let reads = carries.reads in absurd cc
service_carried service value (_ ∷ []) carries = let reads = carries.reads in absurd cc
service_carried service value (first ∷ second ∷ content) carries =
    ap (λ (said : Inner). said.service) (sym (said_is first second content carries.said carries.reads))
    ∙ carries.service_is

-- ---- a PDU has only a value that it carries

none_behind : (first second : ℕ) (content : List ℕ) → length (first ∷ second ∷ content) ≡ 2 → content ≡ []
none_behind first second [] size = refl
none_behind first second (_ ∷ _) size = absurd (omega (arith, size))

carries_in : (is_bits : Bool) (octets : List ℕ) (first second : ℕ) (content : List ℕ) → first < 4
    → (let apdu : List ℕ = first ∷ second ∷ content in
    length apdu ≡ apdu_size (record { is_bits = is_bits; octets = octets })
    → Carries (service_in apdu) (value_in is_bits apdu) apdu)
carries_in true octets first second content upper size = record {
  said = inner (apci_of first second) content;
  reads = says first second content upper;
  service_is = refl;
  value_is = ap bits_value (omega arith);
  alone = λ _. none_behind first second content size;
}
carries_in false octets first second content upper size = record {
  said = inner (apci_of first second) content;
  reads = says first second content upper;
  service_is = refl;
  value_is = refl;
  alone = λ bits. absurd (true≢false (sym bits));
}

has_size : (b : Bool) (fault : BadObject) (found value : ObjectValue) → cond b (Ok found) (Err fault) ≡ Ok value
    → (b ≡ true) × (found ≡ value)
has_size true fault found value is = (refl, same_ok found value is)
has_size false fault found value is = absurd cc

pub carries_sized : (form value : ObjectValue) (apdu : List ℕ) → IsGroupApdu apdu → sized_value form apdu ≡ Ok value
    → Carries (service_in apdu) value apdu
carries_sized form value [] group is = absurd (omega (arith, group.two))
carries_sized form value (_ ∷ []) group is = absurd (omega (arith, group.two))
carries_sized form value (first ∷ second ∷ content) group is =
    let apdu : List ℕ = first ∷ second ∷ content in
    let has = has_size (length apdu == apdu_size form) _ (value_in form.is_bits apdu) value is in
    subst (λ value. Carries (service_in apdu) value apdu) has.1
    (carries_in form.is_bits form.octets first second content group.upper
    (eqb-true (length apdu) (apdu_size form) has.0))

-- ---- effects

accepted_as : (row : ObjectRow) (apdu : List ℕ) (service : Service) → service_in apdu ≡ service
    → accepted row apdu ≡ if_allowed (is_allowed row.flags service) (effect_of service row.value apdu)
accepted_as row apdu service is =
    ap (λ service. if_allowed (is_allowed row.flags service) (effect_of service row.value apdu)) is

allowed : (row : ObjectRow) (service : Service) (apdu : List ℕ) (answer : Result Effect BadObject)
    → service_in apdu ≡ service
    → is_allowed row.flags (service_in apdu) ≡ true → effect_of service row.value apdu ≡ answer
    → accepted row apdu ≡ answer
allowed row service apdu answer is flag does =
    accepted_as row apdu service is
    ∙ ap (λ flag. if_allowed flag (effect_of service row.value apdu)) (sym (ap (is_allowed row.flags) is) ∙ flag) ∙ does

-- What it asks for is done, where the flag allows it and a value has the object's form.
pub is_done : (row : ObjectRow) (apdu : List ℕ) (act : Effect) → AsksFor apdu act → KeepsForm row.value act
    → is_allowed row.flags (service_in apdu) ≡ true → accepted row apdu ≡ Ok act
is_done row apdu effect.Read asks form flag = allowed row GroupValueRead apdu (Ok effect.Read) asks flag refl
is_done row apdu (effect.Write value) asks form flag =
    allowed row GroupValueWrite apdu (Ok (effect.Write value)) (service_carried GroupValueWrite value apdu asks) flag
    (ap (with_value effect.Write) (sized_carried GroupValueWrite row.value value apdu asks form))
is_done row apdu (effect.Response value) asks form flag =
    allowed row GroupValueResponse apdu (Ok (effect.Response value))
    (service_carried GroupValueResponse value apdu asks) flag
    (ap (with_value effect.Response) (sized_carried GroupValueResponse row.value value apdu asks form))

read_only : (flag : Bool) (act : Effect) → if_allowed flag (Ok effect.Read) ≡ Ok act → effect.Read ≡ act
read_only true act is = same_ok effect.Read act is
read_only false act is = absurd cc

with_it : (flag : Bool) (act : ObjectValue → Effect) (found : Result ObjectValue BadObject) (done : Effect)
    → if_allowed flag (with_value act found) ≡ Ok done → (value : ObjectValue) × (found ≡ Ok value) × (act value ≡ done)
with_it true act (Ok value) done is = (value, refl, same_ok (act value) done is)
with_it true act (Err fault) done is = absurd cc
with_it false act found done is = absurd cc

module _ (row : ObjectRow) (apdu : List ℕ) (act : Effect) (group : IsGroupApdu apdu)
    (takes : accepted row apdu ≡ Ok act) where
  asks_read : service_in apdu ≡ GroupValueRead → AsksFor apdu act
  asks_read is =
      subst (AsksFor apdu) (read_only row.flags.reads act (sym (accepted_as row apdu GroupValueRead is) ∙ takes)) is

  asks_write : service_in apdu ≡ GroupValueWrite → AsksFor apdu act
  asks_write is =
      let found = with_it row.flags.writes effect.Write (sized_value row.value apdu) act
      (sym (accepted_as row apdu GroupValueWrite is) ∙ takes) in
      subst (AsksFor apdu) found.2 (subst (λ service. Carries service found.0 apdu) is
      (carries_sized row.value found.0 apdu group found.1))

  asks_response : service_in apdu ≡ GroupValueResponse → AsksFor apdu act
  asks_response is =
      let found = with_it row.flags.updates effect.Response (sized_value row.value apdu) act
      (sym (accepted_as row apdu GroupValueResponse is) ∙ takes) in
      subst (AsksFor apdu) found.2 (subst (λ service. Carries service found.0 apdu) is
      (carries_sized row.value found.0 apdu group found.1))

  -- What is done is what it asks for.
  pub is_asked : AsksFor apdu act
  is_asked = ⊎_elim asks_read (λ other. ⊎_elim asks_write asks_response other) group.group

pub is_exact : (row : ObjectRow) (apdu : List ℕ) (answer : Result Effect BadObject) → IsGroupApdu apdu
    → answer ≡ accepted row apdu
    → IsExact row apdu answer
is_exact row apdu (Ok act) group is = record {
  is_asked = is_asked row apdu act group (sym is);
  is_done = λ act asks form flag. is ∙ is_done row apdu act asks form flag;
}
is_exact row apdu (Err fault) group is = record {
  is_asked = tt;
  is_done = λ act asks form flag. is ∙ is_done row apdu act asks form flag;
}
