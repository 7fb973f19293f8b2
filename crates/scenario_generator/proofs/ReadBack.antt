-- Values whose text reads back, no deeper than a bound.
use Rattle.std.proofs.Common.{◌≡◌, ◌∙◌, ◌<◌, ◌≤◌, ℕ, ◌+◌, ◌^◌, ◌∷◌, List, [], ◌++◌, Option, Some, option_map, option_and_then, refl, sym, ap, arith, append-nil}
use Rattle.scenario_generator.proofs.Prelude.{ArePrintable-json_tokens, Data, HasNumbers, IsNumber-decimal, Items, ItemsHaveNumbers, Token}
use Rattle.scenario_generator.proofs.Prelude.{array, compact_text, item, items_outline, json_tokens, max_depth, no_items, number_of-decimal}
use Rattle.scenario_generator.proofs.Prelude.{of_items, of_json, outline, print-outline, read, tokens, unsigned, value-json_tokens}
use Rattle.scenario_generator.proofs.Prelude.SerdeJson.{number, string}
use Rattle.scenario_generator.proofs.Prelude.json
use Rattle.scenario_generator.proofs.Prelude.tree
use Rattle.scenario_generator.proofs.Reading.{tokens-line}

pub record Reads (k : ℕ) (d : Data) : Type 0 where
  pub back : of_json (outline d) ≡ Some d
  pub numbers : HasNumbers (outline d)
  pub shallow : tree.depth (outline d) ≤ k

pub record ReadsItems (k : ℕ) (ds : Items) : Type 0 where
  pub back : of_items (items_outline ds) ≡ Some ds
  pub numbers : ItemsHaveNumbers (items_outline ds)
  pub shallow : tree.items_depth (items_outline ds) ≤ k

pub reads_string : (k : ℕ) (s : List ℕ) → Reads k (string s)
reads_string k s = record { back = refl; numbers = tt; shallow = omega arith }

pub reads_number : (k n : ℕ) → n < 2 ^ 64 → Reads k (number (unsigned n))
reads_number k n small = record { back = ap (option_map number) (number_of-decimal n small); numbers = IsNumber-decimal n small; shallow = omega arith }

pub reads_no_items : (k : ℕ) → ReadsItems k no_items
reads_no_items k = record { back = refl; numbers = tt; shallow = omega arith }

pub reads_item : (k : ℕ) (d : Data) (ds : Items) → Reads k d → ReadsItems k ds → ReadsItems k (item d ds)
reads_item k d ds first rest = record {
  back = rw (first.back, rest.back);
  numbers = (first.numbers, rest.numbers);
  shallow = omega (arith, first.shallow, rest.shallow);
}

pub reads_array : (k : ℕ) (ds : Items) → ReadsItems k ds → Reads (k + 1) (array ds)
reads_array k ds items = record { back = ap (option_map array) items.back; numbers = items.numbers; shallow = omega (arith, items.shallow) }

-- ---- the text

abbrev whole : Option (json.Json × List Token) → Option Data
whole o = option_and_then of_json (option_and_then (λ p. json.if_last p.0 p.1) o)

pub reads_text : (k : ℕ) (d : Data) → k ≤ max_depth → Reads k d → read (compact_text d ++ 10 ∷ []) ≡ Some d
reads_text k d deep h =
    let j = outline d in
    let text : tokens (compact_text d ++ 10 ∷ []) ≡ json_tokens j =
    ap (λ (v : List ℕ). tokens (v ++ 10 ∷ [])) (sym (print-outline d)) ∙ tokens-line (json_tokens j) (ArePrintable-json_tokens j h.numbers) in
    ap whole (ap (json.value max_depth) (text ∙ sym (append-nil (json_tokens j))) ∙ value-json_tokens j max_depth [] (omega (arith, h.shallow))) ∙ h.back
