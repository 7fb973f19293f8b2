-- After how many transactions a log was flushed, one transaction after another.
use Rattle.std.proofs.Common.{◌≡◌, ◌∙◌, ◌<◌, ◌≤◌, ℕ, suc, ◌+◌, ◌-◌, Bool, true, false, ◌||◌, ◌∷◌, List, [], ◌++◌, length, drop, sym, ap, ap₂, refl, arith, append_assoc, append-nil, Some, nat_le, nat_lt, slice_get, replicate}
use Rattle.scenario_dump.proofs.Prelude.{Entry, Log, common_steps, compact_text, coord_after, count_data, drop_all, end_coord, end_or_first}
use Rattle.scenario_dump.proofs.Prelude.{file_behind, flush_points, flushed_from, items_of, items_text, list_data, slice_get-drop}
pub use Rattle.scenarios.proofs.OrchBase.Lists.{slice_get-there as at_below}

pub coord_behind : (log : Log) (k : ℕ) (e : Entry) → slice_get log.entries k ≡ Some e → coord_after log (k + 1) ≡ end_coord e
coord_behind log k e there = let next : k + 1 ≡ suc k = omega arith in ap (coord_after log) next ∙ ap end_or_first there

pub points_begin : (limit : ℕ) (log : Log) (old new : List ℕ) → new ≡ old ++ 91 ∷ [] → new ++ items_text false (items_of count_data (flushed_from limit log.files 0 1 (drop 0 log.entries))) ≡ old ++ compact_text (list_data count_data (flush_points limit log))
unfolding flush_points
points_begin limit log old new e =
    let points = items_text false (items_of count_data (flushed_from limit log.files 0 1 log.entries)) in
    ap (λ (v : List ℕ). v ++ points) e ∙ append_assoc old (91 ∷ []) points

pub points_go_on : (limit files k file times file' : ℕ) (es : List Entry) (e : Entry) (later later' : Bool) (out new whole : List ℕ) → slice_get es k ≡ Some e → times ≡ e.file - file → file' ≡ file_behind limit e → later' ≡ (later || nat_lt 0 times)
    → ((rest : List ℕ) → new ++ items_text (later || nat_lt 0 times) (items_of count_data rest) ≡ out ++ items_text later (items_of count_data (replicate times k ++ rest)))
    → out ++ items_text later (items_of count_data (flushed_from limit files k file (drop k es))) ≡ whole → new ++ items_text later' (items_of count_data (flushed_from limit files (k + 1) file' (drop (k + 1) es))) ≡ whole
points_go_on limit files k file times file' es e later later' out new whole there count next some printed before =
    let rest = flushed_from limit files (k + 1) (file_behind limit e) (drop (k + 1) es) in
    ap₂ (λ b f. new ++ items_text b (items_of count_data (flushed_from limit files (k + 1) f (drop (k + 1) es)))) some next
    ∙ (printed rest
    ∙ (ap (λ n. out ++ items_text later (items_of count_data (replicate n k ++ rest))) count
    ∙ (ap (λ ys. out ++ items_text later (items_of count_data (flushed_from limit files k file ys))) (sym (slice_get-drop es k e there)) ∙ before)))

pub points_end : (limit files k k' file times : ℕ) (es : List Entry) (later : Bool) (out mid new whole : List ℕ) → length es ≤ k → k' ≡ k → times ≡ files - file
    → ((rest : List ℕ) → mid ++ items_text (later || nat_lt 0 times) (items_of count_data rest) ≡ out ++ items_text later (items_of count_data (replicate times k' ++ rest)))
    → out ++ items_text later (items_of count_data (flushed_from limit files k file (drop k es))) ≡ whole → new ≡ mid ++ 93 ∷ [] → new ≡ whole
points_end limit files k k' file times es later out mid new whole all same count printed before e =
    e
    ∙ (printed []
    ∙ (ap (λ ys. out ++ items_text later (items_of count_data ys)) (append-nil (replicate times k') ∙ ap₂ (λ n m. replicate n m) count same)
    ∙ (ap (λ ys. out ++ items_text later (items_of count_data (flushed_from limit files k file ys))) (sym (drop_all k es all)) ∙ before)))

pub either_first : (b c r : Bool) → b ≡ true → r ≡ b → r ≡ (b || c)
either_first b c r e f = rw (f, e) refl

pub either_last : (b c r : Bool) → b ≡ false → r ≡ c → r ≡ (b || c)
either_last b c r e f = rw (f, e) refl

pub behind_full : (limit pos file ends : ℕ) (e : Entry) → pos ≡ e.end → limit ≤ pos → ends ≡ e.file → file ≡ ends + 1 → file ≡ file_behind limit e
behind_full limit pos file ends e stops full same is =
    let reached : nat_le limit e.end ≡ true = grind (arith, common_steps, stops, full) in
    is ∙ rw (same, reached) refl

pub behind_within : (limit pos file ends : ℕ) (e : Entry) → pos ≡ e.end → pos < limit → ends ≡ e.file → file ≡ ends → file ≡ file_behind limit e
behind_within limit pos file ends e stops some same is =
    let below : nat_le limit e.end ≡ false = grind (arith, common_steps, stops, some) in
    is ∙ rw (same, below) refl
