-- What was printed, part by part.
pub use Rattle.scenario_generator.proofs.Texts.{appended}
pub use Rattle.std.proofs.lemmas.Result.{on_ok_weaker as map_ok}
use Rattle.std.proofs.Common.{Bool, ◌≡◌, ◌∙◌, ℕ, ◌∷◌, List, [], ◌++◌, sym, ap, ap₂, append_assoc, append-nil, decimal}
use Rattle.scenario_dump.proofs.Prelude.{Token, Version, comma_if, escape, print, print_from, quoted, version_text}
use Rattle.scenario_dump.proofs.Prelude.Json.{string}
use Rattle.scenario_dump.proofs.Quotes.{escape-version_text}

-- a text that was put in quotes as it is
pub in_quotes : (old one two three new before s : List ℕ) → escape s ≡ s → one ≡ old ++ before → two ≡ one ++ 34 ∷ [] → three ≡ two ++ s → new ≡ three ++ 34 ∷ [] → new ≡ old ++ (before ++ quoted s)
in_quotes old one two three new before s same e1 e2 e3 e4 = simp (e4, e3, e2, e1, same, append_assoc)

pub version_printed : (old one two three four new before : List ℕ) (v : Version) (a b c : ℕ) → a ≡ v.major → b ≡ v.minor → c ≡ v.patch → one ≡ old ++ before → two ≡ one ++ (34 ∷ [] ++ decimal a) → three ≡ two ++ (46 ∷ [] ++ decimal b) → four ≡ three ++ (46 ∷ [] ++ decimal c) → new ≡ four ++ 34 ∷ []
    → new ≡ old ++ (before ++ quoted (version_text v))
version_printed old one two three four new before v a b c major minor patch e1 e2 e3 e4 e5 =
    let unquoted : new ≡ old ++ (before ++ (34 ∷ (version_text v ++ 34 ∷ []))) = simp (e5, e4, e3, e2, e1, major, minor, patch, append_assoc) in
    unquoted ∙ ap (λ (w : List ℕ). old ++ (before ++ (34 ∷ (w ++ 34 ∷ [])))) (sym (escape-version_text v))

-- a text that a writer put in quotes after what stood before
pub text_written : (old before written s : List ℕ) (none all : List Token) → none ≡ [] → all ≡ none ++ string s ∷ [] → before ≡ old → written ≡ before ++ print all → written ≡ old ++ quoted s
unfolding print_from
text_written old before written s none all new one same is = is ∙ ap₂ (λ (v w : List ℕ). v ++ w) same (ap print (one ∙ ap (λ (ts : List Token). ts ++ string s ∷ []) new) ∙ append-nil (quoted s))

-- ---- parts one after another

abbrev pub joined : List (List ℕ) → List ℕ
joined [] = []
joined (p ∷ []) = p
joined (p ∷ q ∷ ps) = p ++ joined (q ∷ ps)

-- the text grew by these parts
pub data Grew : List ℕ → List (List ℕ) → List ℕ → Type 0 where
  Once : (old new part : List ℕ) → new ≡ old ++ part → Grew old (part ∷ []) new
  First : (old mid new part next : List ℕ) (more : List (List ℕ)) → mid ≡ old ++ part → Grew mid (next ∷ more) new → Grew old (part ∷ next ∷ more) new

pub grew_by : (old new : List ℕ) (parts : List (List ℕ)) → Grew old parts new → new ≡ old ++ joined parts
grew_by _ _ _ (Once old new part e) = e
grew_by _ _ _ (First old mid new part next more e rest) = grew_by mid new (next ∷ more) rest ∙ (ap (λ (v : List ℕ). v ++ joined (next ∷ more)) e ∙ append_assoc old part (joined (next ∷ more)))

-- ---- a part of a history

pub part_shape : (old one two three four new : List ℕ) (later : Bool) (before name name' : List ℕ) (size size' count : ℕ) → before ≡ comma_if later → name ≡ name' → size ≡ size'
    → one ≡ old ++ before → two ≡ one ++ (91 ∷ [] ++ quoted name) → three ≡ two ++ (44 ∷ [] ++ decimal size) → four ≡ three ++ (44 ∷ [] ++ decimal count) → new ≡ four ++ 93 ∷ []
    → new ≡ old ++ (comma_if later ++ (91 ∷ (quoted name' ++ (44 ∷ (decimal size' ++ (44 ∷ (decimal count ++ 93 ∷ [])))))))
part_shape old one two three four new later before name name' size size' count e0 n s e1 e2 e3 e4 e5 = simp (e5, e4, e3, e2, e1, e0, s, append_assoc) (ap (λ (v : List ℕ). old ++ (comma_if later ++ (91 ∷ 34 ∷ (escape v ++ (34 ∷ 44 ∷ (decimal size' ++ (44 ∷ (decimal count ++ 93 ∷ [])))))))) n)

-- ---- values by other names

pub quoted_as : (new old before s t : List ℕ) → new ≡ old ++ (before ++ quoted s) → s ≡ t → new ≡ old ++ (before ++ quoted t)
quoted_as new old before s t e same = e ∙ ap (λ (v : List ℕ). old ++ (before ++ quoted v)) same

pub number_as : (new old before : List ℕ) (m n : ℕ) → new ≡ old ++ (before ++ decimal m) → m ≡ n → new ≡ old ++ (before ++ decimal n)
number_as new old before m n e same = e ∙ ap (λ k. old ++ (before ++ decimal k)) same

pub two_first : (old mid new before before' value : List ℕ) → mid ≡ old ++ before → before ≡ before' → new ≡ mid ++ value → new ≡ old ++ (before' ++ value)
two_first old mid new before before' value first same last = last ∙ (ap (λ (v : List ℕ). v ++ value) (first ∙ ap (λ (v : List ℕ). old ++ v) same) ∙ append_assoc old before' value)

pub quoted_behind : (new old before before' s t : List ℕ) → new ≡ old ++ (before ++ quoted s) → before ≡ before' → s ≡ t → new ≡ old ++ (before' ++ quoted t)
quoted_behind new old before before' s t e same same' = e ∙ ap₂ (λ (v w : List ℕ). old ++ (v ++ quoted w)) same same'
