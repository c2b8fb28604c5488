-- What is sent for a value reads back as that value.
use Rattle.std.proofs.Common.{◌≡◌, ℕ, ◌+◌, ◌/◌, ◌%◌, ◌<◌, ◌≤◌, Bool, true, false, List, [], ◌∷◌, Ok, refl, sym, ap, ◌∙◌, arith}
use Rattle.std.proofs.lemmas.Bool.{le-leb, lt-leb, lt-ltb, true≢false}
use Rattle.plain_apdu.specs.declared.service.Service.{Service}
use Rattle.plain_apdu.specs.declared.service.Service.TheVariants.{GroupValueResponse, GroupValueWrite}
use Rattle.plain_apdu.specs.Service as services
use Rattle.plain_apdu.specs.Apdu.{apdu_of, apci_of, inner_of, inner}
use Rattle.group_objects.specs.declared.row.ObjectRow.{ObjectRow}
use Rattle.group_objects.specs.declared.row.Effect.TheVariants as effect
use Rattle.group_objects.specs.declared.service.SendService.{SendService}
use Rattle.group_objects.specs.declared.service.SendService.TheVariants as send
use Rattle.group_objects.specs.Value.{ObjectValue, IsValue, bits_value, octets_value, same_form}
use Rattle.group_objects.specs.Apdus.{Carries, service_in, carrying, service_apdu}
use Rattle.group_objects.specs.Effects.{AsksFor, ReadsBack, accepted, effect_sent, is_allowed, service_sent}
use Rattle.group_objects.proofs.Asking.{is_done, service_carried}

bits_back : (bits : ℕ) → bits < 1024 → apci_of (bits / 256) (bits % 256) ≡ bits
bits_back bits fits = omega (arith, fits)

is_write : (bits : ℕ) → 0x080 ≤ bits → bits ≤ 0x0bf → services.service_of bits ≡ GroupValueWrite
unfolding services.service_of
is_write bits from to =
    rw (
      le-leb 0 bits (omega arith),
      lt-leb bits 0x03f (omega (arith, from)),
      le-leb 0x040 bits (omega (arith, from)),
      lt-leb bits 0x07f (omega (arith, from)),
      le-leb 0x080 bits from,
      le-leb bits 0x0bf to,
    ) refl

is_response : (bits : ℕ) → 0x040 ≤ bits → bits ≤ 0x07f → services.service_of bits ≡ GroupValueResponse
unfolding services.service_of
is_response bits from to =
    rw (
      le-leb 0 bits (omega arith),
      lt-leb bits 0x03f (omega (arith, from)),
      le-leb 0x040 bits from,
      le-leb bits 0x07f
          to,
    ) refl

said_back : (bits : ℕ) (content : List ℕ) → bits < 1024 → inner_of (apdu_of bits content) ≡ Ok (inner bits content)
unfolding inner_of
said_back bits content fits = rw (lt-ltb (bits / 256) 4 (omega (arith, fits)), bits_back bits fits) refl

-- ---- the PDU carries the value

bits_carried : (service : Service) (code v : ℕ) → code % 64 ≡ 0 → code < 960 → v < 64
    → services.service_of (code + v) ≡ service
    → Carries service (bits_value v) (apdu_of (code + v) [])
bits_carried service code v whole fits six is = record {
  said = inner (code + v) [];
  reads = said_back (code + v) [] (omega (arith, fits, six));
  service_is = is;
  value_is = ap bits_value (omega (arith, whole, six));
  alone = λ _. refl;
}

octets_carried : (service : Service) (code : ℕ) (octets : List ℕ) → code < 960 → services.service_of code ≡ service
    → Carries service (octets_value octets) (apdu_of code octets)
octets_carried service code octets fits is = record {
  said = inner code octets;
  reads = said_back code octets (omega (arith, fits));
  service_is = is;
  value_is = refl;
  alone = λ bits. absurd (true≢false (sym bits));
}

-- ---- each service

done : (service : SendService) (value : ObjectValue) (apdu : List ℕ) → AsksFor apdu (effect_sent service value)
    → service_in apdu ≡ service_sent service
    → (row : ObjectRow) → same_form value row.value ≡ true → is_allowed row.flags (service_sent service) ≡ true
    → accepted row apdu ≡ Ok (effect_sent service value)
done send.Read value apdu asks is row same flag =
    is_done row apdu effect.Read asks tt (ap (is_allowed row.flags) is ∙ flag)
done send.Write value apdu asks is row same flag =
    is_done row apdu (effect.Write value) asks same (ap (is_allowed row.flags) is ∙ flag)
done send.Response value apdu asks is row same flag =
    is_done row apdu (effect.Response value) asks same (ap (is_allowed row.flags) is ∙ flag)

pub read_back : (value : ObjectValue) → ReadsBack send.Read value (service_apdu send.Read value)
unfolding services.service_of
read_back value = record { asks = refl; is_done = done send.Read value (apdu_of 0 []) refl refl }

written : (value : ObjectValue) (apdu : List ℕ) → Carries GroupValueWrite value apdu → ReadsBack send.Write value apdu
written value apdu carries = record {
  asks = carries;
  is_done = done send.Write value apdu carries (service_carried GroupValueWrite value apdu carries);
}

answered : (value : ObjectValue) (apdu : List ℕ) → Carries GroupValueResponse value apdu
    → ReadsBack send.Response value apdu
answered value apdu carries = record {
  asks = carries;
  is_done = done send.Response value apdu carries (service_carried GroupValueResponse value apdu carries);
}

module _ (P : ObjectValue → List ℕ → Type 0) (code : ℕ) (bits : (v : ℕ) → v < 64
    → P (bits_value v) (apdu_of (code + v) []))
    (octets : (octets : List ℕ) → P (octets_value octets) (apdu_of code octets)) where
  either : (is_bits : Bool) (held : List ℕ) → let value : ObjectValue =
      record { is_bits = is_bits; octets = held } in IsValue value → P value (carrying code value)
  either false held is = octets held
  either true [] is = absurd (omega (arith, is.some))
  either true (v ∷ []) is = bits v (is.six refl)
  either true (_ ∷ _ ∷ _) is = absurd (omega (arith, is.one refl))

pub write_back : (value : ObjectValue) → IsValue value → ReadsBack send.Write value (service_apdu send.Write value)
write_back value is =
    written value (carrying 0x080 value) (either (Carries GroupValueWrite) 0x080
    (λ v six. bits_carried GroupValueWrite 0x080 v refl (omega arith) six
    (is_write (0x080 + v) (omega arith) (omega (arith, six))))
    (λ octets. octets_carried GroupValueWrite 0x080 octets (omega arith) (is_write 0x080 (omega arith) (omega arith)))
    value.is_bits value.octets is)

pub response_back : (value : ObjectValue) → IsValue value
    → ReadsBack send.Response value (service_apdu send.Response value)
response_back value is =
    answered value (carrying 0x040 value) (either (Carries GroupValueResponse) 0x040
    (λ v six. bits_carried GroupValueResponse 0x040 v refl (omega arith) six
    (is_response (0x040 + v) (omega arith) (omega (arith, six))))
    (λ octets. octets_carried GroupValueResponse 0x040 octets (omega arith)
    (is_response 0x040 (omega arith) (omega arith)))
    value.is_bits value.octets is)
