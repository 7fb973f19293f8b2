use Rattle.std.proofs.Common.{◌∙◌, Result, Ok, Err, subst, OnOk, string_bytes}
use Rattle.row_texts.proofs.Prelude.{IsUtf8, view}
use Rattle.row_texts.proofs.Texts.{written_value}
use Rattle.row_texts.proofs.row_text.RowRowText.text.Goals as goal

on_ok : {A E : Type 0} (r : Result A E) (P : Type 0) → P → OnOk r P
on_ok (Ok x) P p = p
on_ok (Err e) P p = tt

pub returns-clause-value : goal.returns-clause-value
returns-clause-value c =
    let utf8 : IsUtf8 (string_bytes c.in_ok-text.text) = subst IsUtf8 (c.as_bytes.ensures.value ∙ c.as_str.ensures.value) c.as_bytes.ensures.utf8 in
    on_ok _ _ (written_value c.args.names.now c.args.self.now (view c.in_ok-value.value) (string_bytes c.in_ok-text.text) c.in_ok-value.ensures utf8 c.in_ok-text.ensures.text c.in_ok-text.ensures.reads_back)
