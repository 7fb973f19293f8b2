-- Names beside their printed texts.
use Rattle.std.proofs.Common.{◌≡◌, ◌∙◌, ℕ, List, [], map, Option, Some, None, refl, sym, ap, option_map, slice_get}
use Rattle.std.proofs.lemmas.Option.{same_Some, slice_get-map}
use Rattle.server_words.specs.OrchBase.Names.{HostPort, printed, printed_at}

text_of : (name : Option HostPort) (text : Option (List ℕ)) → text ≡ option_map printed name → (bytes : List ℕ) → text ≡ Some bytes → printed_at name ≡ bytes
text_of None text none bytes some = cc
text_of (Some name) text is bytes some = same_Some (printed name) bytes (sym is ∙ some)

no_text : (name : Option HostPort) → None ≡ option_map printed name → printed_at name ≡ []
no_text None none = refl
no_text (Some name) none = cc

at : {V : Type 0} (texts : List V) (items : V → List ℕ) (names : List HostPort) (i : ℕ) → map items texts ≡ map printed names → option_map items (slice_get texts i) ≡ option_map printed (slice_get names i)
at texts items names i same = sym (slice_get-map items texts i) ∙ (ap (λ (l : List (List ℕ)). slice_get l i) same ∙ slice_get-map printed names i)

-- a name's text
pub text_at : {V : Type 0} (texts : List V) (items : V → List ℕ) (names : List HostPort) (i : ℕ) (text : V) → map items texts ≡ map printed names → slice_get texts i ≡ Some text → printed_at (slice_get names i) ≡ items text
text_at texts items names i text same here = text_of (slice_get names i) (option_map items (slice_get texts i)) (at texts items names i same) (items text) (ap (option_map items) here)

-- there is no such name
pub no_text_at : {V : Type 0} (texts : List V) (items : V → List ℕ) (names : List HostPort) (i : ℕ) → map items texts ≡ map printed names → slice_get texts i ≡ None → printed_at (slice_get names i) ≡ []
no_text_at texts items names i same none = no_text (slice_get names i) (sym (ap (option_map items) none) ∙ at texts items names i same)
