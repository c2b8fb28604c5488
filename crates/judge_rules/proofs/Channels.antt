-- The channel of a frame has a key.
use Rattle.std.proofs.Common.{◌≡◌, ℕ, Bool, true, false, List, Option, Some, None, refl, sym, ap, ◌∙◌}
use Rattle.std.specs.Option.{option_or}
use Rattle.std.proofs.lemmas.Option.{none-some, cond_some}
use Rattle.cemi_frames.specs.Frames.{Telegram}
use Rattle.judge_rules.specs.Parts.{is_group, has_tool_access, source_of, channel_in}
use Rattle.knx_base.specs.declared.address.IndAddr.{IndAddr}
use Rattle.key_tables.specs.declared.types.Channel.{Channel}
use Rattle.key_tables.specs.declared.types.Channel.TheVariants as channel
use Rattle.key_tables.specs.declared.types.Row.{Row}
use Rattle.key_tables.specs.Rows.{key_of, where_keyed, keyed, channel_of}

where_keyed-has : (rows : List Row) (c d : Channel) (key : Option (List ℕ)) → key_of rows c ≡ key
    → where_keyed c key ≡ Some d → key_of rows d ≡ None → ⊥
where_keyed-has rows c d None is said none = none-some d said
where_keyed-has rows c d (Some key) is said none =
    none-some key (sym none ∙ ap (key_of rows) (sym (cond_some true c d said).1) ∙ is)

keyed-has : (rows : List Row) (c d : Channel) → keyed rows c ≡ Some d → key_of rows d ≡ None → ⊥
keyed-has rows c d = where_keyed-has rows c d (key_of rows c) refl

either-has : (rows : List Row) (a b d : Channel) (first : Option Channel) → keyed rows a ≡ first
    → option_or first (keyed rows b) ≡ Some d → key_of rows d ≡ None → ⊥
either-has rows a b d None is said = keyed-has rows b d said
either-has rows a b d (Some found) is said = keyed-has rows a d (is ∙ said)

channel_has_key : (rows : List Row) (group tool : Bool) (source : IndAddr) (destination : ℕ) (c : Channel)
    → channel_of rows group tool source destination ≡ Some c → key_of rows c ≡ None → ⊥
unfolding channel_of
channel_has_key rows true true source destination c said none = none-some c said
channel_has_key rows true false source destination c said none =
    keyed-has rows (channel.Group (record { 0 = destination })) c said none
channel_has_key rows false true source destination c said none =
    either-has rows (channel.Tool (record { 0 = destination })) (channel.Tool source) c
    (keyed rows (channel.Tool (record { 0 = destination }))) refl said none
channel_has_key rows false false source destination c said none = none-some c said

pub channel_in_has_key : (rows : List Row) (t : Telegram) (c : Channel) → channel_in rows t ≡ Some c
    → key_of rows c ≡ None → ⊥
unfolding channel_in
channel_in_has_key rows t c = channel_has_key rows (is_group t) (has_tool_access t) (source_of t) t.destination c
