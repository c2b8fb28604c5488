-- The frame that a sealed APDU is sent in, over plain lists.
use Rattle.std.proofs.Common.{◌≡◌, ℕ, ◌+◌, List, [], ◌++◌, length, take, sym, ap, ◌∙◌, arith}
use Rattle.std.proofs.lemmas.List.{take_at}
use Rattle.cemi_frames.specs.Fields.{Fields, long_octets, info_octets, message}
use Rattle.secure_apdu.specs.declared.sealing.SendHead.{SendHead}
use Rattle.secure_apdu.specs.SealedFrame.{sealed_content, sealed_fields, sealed_frame}

length-message : (fields : Fields) → length (message 0x29 [] (long_octets fields)) ≡ length fields.content + 9
unfolding message info_octets long_octets
length-message fields = omega arith

-- what was written at the front is the frame
pub sealed_frame_from : (key : List ℕ) (head : SendHead) (apdu content out rest : List ℕ) (n : ℕ)
    → content ≡ sealed_content key head apdu → n ≡ length content + 9
    → out ≡ message 0x29 [] (long_octets (sealed_fields head content)) ++ rest → take n out ≡ sealed_frame key head apdu
unfolding sealed_frame
sealed_frame_from key head apdu content out rest n is_content is_length is_out =
    ap (take n) is_out
    ∙ take_at (message 0x29 [] (long_octets (sealed_fields head content))) rest n
    (length-message (sealed_fields head content) ∙ sym is_length)
    ∙ ap (λ (c : List ℕ). message 0x29 [] (long_octets (sealed_fields head c))) is_content
