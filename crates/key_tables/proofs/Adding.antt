-- Rows that are added to a list one after another.
use Rattle.std.proofs.Common.{◌≡◌, ℕ, ◌+◌, ◌<◌, List, [], ◌∷◌, ◌++◌, length, take, drop, Option, None, Bool, true, false, cond, not, arith, length-append, sym, ap, subst, ◌∙◌, append_assoc, append-nil, take-append-drop, slice_index_or}
use Rattle.std.specs.Option.{option_or}
use Rattle.std.specs.List.{filter}
use Rattle.std.proofs.lemmas.List.{take_more}
use Rattle.std.proofs.lemmas.List.Elements.{filter-append, filter_more}
use Rattle.key_tables.proofs.Firsts.{first_of-append, first_after}
use Rattle.key_tables.specs.declared.types.Row.{Row}
use Rattle.key_tables.specs.declared.faults.BuildFault.{BuildFault}
use Rattle.key_tables.specs.declared.faults.BuildFault.TheVariants.{Twice, TooMany, NoMemory}
use Rattle.key_tables.specs.Build.{row_fault, first_fault, build_fault, is_full, is_key, is_role, is_kept, merged, Adds, IsCounted, IsFault}
use Rattle.key_tables.proofs.Standing.{one_more_once, room_for_key, room_for_role}

-- what is still to be added is judged after what was added
after_added : (before now xs ys : List Row) → Adds before now xs → first_fault before (xs ++ ys) ≡ first_fault now ys
after_added before now xs ys added =
    first_after row_fault before xs ys added.stand ∙ ap (λ rows. first_fault rows ys) (sym added.are)

one_more_stands : (rows : List Row) (row : Row) → build_fault rows ≡ None → row_fault rows row ≡ None
    → build_fault (rows ++ row ∷ []) ≡ None
unfolding build_fault
one_more_stands rows row all one =
    first_after row_fault [] rows (row ∷ []) all ∙ ap (λ fault. option_or fault None) one

one_more : (p : Row → Bool) (passes : Bool) (rows : List Row) (row : Row) → p row ≡ passes
    → length (filter p (rows ++ row ∷ [])) ≡ length (filter p rows) + length (cond passes (row ∷ []) [])
one_more p passes rows row is =
    ap length (filter-append p rows (row ∷ []))
    ∙ length-append (filter p rows) (cond (p row) (row ∷ []) [])
    ∙ ap (λ b. length (filter p rows) + length (cond b (row ∷ []) [])) is

pub one_more_key : (rows now : List Row) (row : Row) (keys roles : ℕ) → now ≡ rows ++ row ∷ [] → is_key row ≡ true
    → is_full rows row ≡ false → row_fault rows row ≡ None → IsCounted rows keys roles → IsCounted now (keys + 1) roles
one_more_key rows now row keys roles pushed kind room stands counted =
    let more_keys = one_more is_key true rows row kind in
    let more_roles = one_more is_role false rows row (ap not kind) in
    subst (λ list. IsCounted list (keys + 1) roles) (sym pushed) (record {
      stand = one_more_stands rows row counted.stand stands;
      once = one_more_once rows row counted.once stands;
      few = record {
        keys = omega (arith, more_keys, counted.few.keys, room_for_key rows row kind room);
        roles = omega (arith, more_roles, counted.few.roles);
      };
      keys_are = omega (arith, counted.keys_are, more_keys);
      roles_are = omega (arith, counted.roles_are, more_roles);
    })

pub one_more_role : (rows now : List Row) (row : Row) (keys roles : ℕ) → now ≡ rows ++ row ∷ [] → is_key row ≡ false
    → is_full rows row ≡ false → row_fault rows row ≡ None → IsCounted rows keys roles → IsCounted now keys (roles + 1)
one_more_role rows now row keys roles pushed kind room stands counted =
    let more_keys = one_more is_key false rows row kind in
    let more_roles = one_more is_role true rows row (ap not kind) in
    subst (λ list. IsCounted list keys (roles + 1)) (sym pushed) (record {
      stand = one_more_stands rows row counted.stand stands;
      once = one_more_once rows row counted.once stands;
      few = record {
        keys = omega (arith, more_keys, counted.few.keys);
        roles = omega (arith, more_roles, counted.few.roles, room_for_role rows row kind room);
      };
      keys_are = omega (arith, counted.keys_are, more_keys);
      roles_are = omega (arith, counted.roles_are, more_roles);
    })

adds_one : (before now new xs : List Row) (row : Row) → Adds before now xs → new ≡ now ++ row ∷ []
    → row_fault now row ≡ None → Adds before new (xs ++ row ∷ [])
adds_one before now new xs row added pushed stands = record {
  are = pushed ∙ ap (λ rows. rows ++ row ∷ []) added.are ∙ append_assoc before xs (row ∷ []);
  stand = after_added before now xs (row ∷ []) added ∙ ap (λ fault. option_or fault None) stands;
}

is_first : (fault : BuildFault) (found later : Option BuildFault) → IsFault fault found
    → IsFault fault (option_or found later)
is_first NoMemory found later h = tt
is_first (Twice i) found later h = ap (λ o. option_or o later) h
is_first (TooMany i) found later h = ap (λ o. option_or o later) h

stops_at : (before now xs ys : List Row) (row : Row) (fault : BuildFault) → Adds before now xs
    → IsFault fault (row_fault now row)
    → IsFault fault (first_fault before (xs ++ row ∷ ys))
stops_at before now xs ys row fault added h =
    subst (λ found. IsFault fault found) (sym (after_added before now xs (row ∷ ys) added))
    (is_first fault (row_fault now row) (first_fault (now ++ row ∷ []) ys) h)

split_at : (rows : List Row) (i : ℕ) (d : Row) → i < length rows
    → rows ≡ take i rows ++ slice_index_or rows i d ∷ drop (i + 1) rows
split_at rows i d within =
    sym (take-append-drop (i + 1) rows)
    ∙ ap (λ front. front ++ drop (i + 1) rows) (take_more rows i d within)
    ∙ append_assoc (take i rows) (slice_index_or rows i d ∷ []) (drop (i + 1) rows)

-- ---- a loop that adds all rows

pub more_added : (before now new rows : List Row) (i : ℕ) (d : Row) → i < length rows → Adds before now (take i rows)
    → new ≡ now ++ slice_index_or rows i d ∷ [] → row_fault now (slice_index_or rows i d) ≡ None
    → Adds before new (take (i + 1) rows)
more_added before now new rows i d within added pushed stands =
    subst (λ xs. Adds before new xs) (sym (take_more rows i d within))
    (adds_one before now new (take i rows) (slice_index_or rows i d) added pushed stands)

pub stops_adding : (before now rows : List Row) (i : ℕ) (d : Row) (fault : BuildFault) → i < length rows
    → Adds before now (take i rows) → IsFault fault (row_fault now (slice_index_or rows i d))
    → IsFault fault (first_fault before rows)
stops_adding before now rows i d fault within added h =
    subst (λ xs. IsFault fault (first_fault before xs)) (sym (split_at rows i d within))
    (stops_at before now (take i rows) (drop (i + 1) rows) (slice_index_or rows i d) fault added h)

-- ---- a loop that adds the rows that pass a test

pub more_kept : (p : Row → Bool) (before now new rows : List Row) (i : ℕ) (d : Row) → i < length rows
    → p (slice_index_or rows i d) ≡ true → Adds before now (filter p (take i rows))
    → new ≡ now ++ slice_index_or rows i d ∷ [] → row_fault now (slice_index_or rows i d) ≡ None
    → Adds before new (filter p (take (i + 1) rows))
more_kept p before now new rows i d within kept added pushed stands =
    let row = slice_index_or rows i d in
    let front = filter p (take i rows) in
    subst (λ xs. Adds before new xs)
    (sym (filter_more p rows i d within ∙ ap (λ b. front ++ cond b (row ∷ []) []) kept))
    (adds_one before now new front row added pushed stands)

pub none_kept : (p : Row → Bool) (before now rows : List Row) (i : ℕ) (d : Row) → i < length rows
    → p (slice_index_or rows i d) ≡ false → Adds before now (filter p (take i rows))
    → Adds before now (filter p (take (i + 1) rows))
none_kept p before now rows i d within dropped added =
    let row = slice_index_or rows i d in
    let front = filter p (take i rows) in
    subst (λ xs. Adds before now xs)
    (sym (filter_more p rows i d within ∙ ap (λ b. front ++ cond b (row ∷ []) []) dropped ∙ append-nil front))
    added

pub stops_keeping : (p : Row → Bool) (before now rows : List Row) (i : ℕ) (d : Row) (fault : BuildFault)
    → i < length rows
    → p (slice_index_or rows i d) ≡ true → Adds before now (filter p (take i rows))
    → IsFault fault (row_fault now (slice_index_or rows i d)) → IsFault fault (first_fault before (filter p rows))
stops_keeping p before now rows i d fault within kept added h =
    let row = slice_index_or rows i d in
    let front = filter p (take i rows) in
    let later = filter p (drop (i + 1) rows) in
    let whole : filter p rows ≡ front ++ row ∷ later =
    ap (filter p) (split_at rows i d within)
    ∙ filter-append p (take i rows) (row ∷ drop (i + 1) rows)
    ∙ ap (λ b. front ++ cond b (row ∷ later) later) kept
    in
    subst (λ xs. IsFault fault (first_fault before xs)) (sym whole) (stops_at before now front later row fault added h)

-- ---- the rows of two lists, merged

pub merge_added : (over under first both : List Row) → Adds [] first over
    → Adds first both (filter (is_kept over) under)
    → build_fault (merged over under) ≡ None
unfolding build_fault merged
merge_added over under first both above below =
    after_added [] first over (filter (is_kept over) under) above ∙ below.stand

pub stops_above : (over under : List Row) (fault : BuildFault) → IsFault fault (first_fault [] over)
    → IsFault fault (build_fault (merged over under))
unfolding build_fault merged
stops_above over under fault h =
    subst (λ found. IsFault fault found) (sym (first_of-append row_fault [] over (filter (is_kept over) under)))
    (is_first fault (first_fault [] over) (first_fault over (filter (is_kept over) under)) h)

pub stops_below : (over under first : List Row) (fault : BuildFault) → Adds [] first over
    → IsFault fault (first_fault first (filter (is_kept over) under)) → IsFault fault (build_fault (merged over under))
unfolding build_fault merged
stops_below over under first fault above h =
    subst (λ found. IsFault fault found) (sym (after_added [] first over (filter (is_kept over) under) above)) h
