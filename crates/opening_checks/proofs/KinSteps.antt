-- One transaction of a history against the table.
use Rattle.std.proofs.Common.{◌≡◌, ℕ, ◌+◌, ◌<◌, Bool, List, [], length, drop, get_or, sym, ap, ◌∙◌, Some, Option, ◌&&◌}
use Rattle.opening_checks.proofs.Prelude.{Link, Txn, agrees_at, agrees_in, drop_more, get_or_default, link_of, links_after, list_all, row_at}
use Rattle.opening_checks.proofs.Prelude.{unwrap_or-slice_get}

pub row_at-read : (rows : List (List Link)) (o : ℕ) (row : List Link) → o < length rows → row ≡ get_or rows o row → row_at rows o ≡ row
row_at-read rows o row within is = unwrap_or-slice_get rows o [] ∙ get_or_default rows o [] row within ∙ sym is

pub agrees-on : (rows : List (List Link)) (history : List Txn) (before : Option Txn) (k : ℕ) (d : Txn) (row : List Link) (b : Bool) → k < length history → (get_or history k d).origin.0 < length rows
    → row ≡ get_or rows (get_or history k d).origin.0 row → b ≡ agrees_in row (get_or history k d).seq (link_of before (get_or history k d))
    → list_all (agrees_at rows) (links_after before (drop k history)) ≡ (b && list_all (agrees_at rows) (links_after (Some (get_or history k d)) (drop (k + 1) history)))
agrees-on rows history before k d row b within in_rows is told =
    let t = get_or history k d in
    ap (λ ts. list_all (agrees_at rows) (links_after before ts)) (drop_more history k d within)
    ∙ ap (λ r. agrees_in r t.seq (link_of before t) && list_all (agrees_at rows) (links_after (Some t) (drop (k + 1) history))) (row_at-read rows t.origin.0 row in_rows is)
    ∙ ap (λ x. x && list_all (agrees_at rows) (links_after (Some t) (drop (k + 1) history))) (sym told)
