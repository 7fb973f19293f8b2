-- The text reads as JSON with the value that was drawn.
use Rattle.std.proofs.Common.{◌≡◌, ◌∙◌, ℕ, Bool, true, false, cond, ◌&&◌, ◌∷◌, List, [], ◌++◌, refl, sym, ap, ap₂, append_assoc, append-nil}
use Rattle.scenario_generator.proofs.Prelude.{ArePrintable, IsPrintable, Lexeme, Token, bad, begin_array, begin_object, begins, between, boolean}
use Rattle.scenario_generator.proofs.Prelude.{colon, comma, content-escape, end_array, end_object, ends, ends_word, escape, fresh, in_word-ended, key}
use Rattle.scenario_generator.proofs.Prelude.{lex, lex-escape, lex-number, null, number, print, print_from, punctuate, quoted, separator, string}
use Rattle.scenario_generator.proofs.Prelude.{string_token, token, token_text, tokens, tokens-print, word}

-- ---- a newline byte after the text adds no token

token_lexemes : Token → List Lexeme
token_lexemes begin_object = token begin_object ∷ []
token_lexemes end_object = token end_object ∷ []
token_lexemes begin_array = token begin_array ∷ []
token_lexemes end_array = token end_array ∷ []
token_lexemes (key s) = token (string s) ∷ colon ∷ []
token_lexemes (string s) = token (string s) ∷ []
token_lexemes (number s) = token (number s) ∷ []
token_lexemes (boolean b) = token (boolean b) ∷ []
token_lexemes null = token null ∷ []
token_lexemes bad = []

lex-quoted : (s r : List ℕ) → lex between (quoted s ++ r) ≡ token (string s) ∷ lex between r
unfolding lex
lex-quoted s r =
    let e = append_assoc (escape s) (34 ∷ []) r in
    ap (λ l. lex between (34 ∷ l)) e ∙ ap₂ (λ o l. token (string_token o) ∷ l) (content-escape s r) (lex-escape s r)

lex-token_text : (t : Token) (r : List ℕ) → IsPrintable t → (ends t ≡ true → ends_word r ≡ true) → lex between (token_text t ++ r) ≡ token_lexemes t ++ lex between r
unfolding lex word token_lexemes
lex-token_text begin_object r h ended = refl
lex-token_text end_object r h ended = refl
lex-token_text begin_array r h ended = refl
lex-token_text end_array r h ended = refl
lex-token_text (key s) r h ended = ap (lex between) (append_assoc (quoted s) (58 ∷ []) r) ∙ lex-quoted s (58 ∷ r)
lex-token_text (string s) r h ended = lex-quoted s r
lex-token_text (number s) r h ended = lex-number s r h (ended refl)
lex-token_text (boolean true) r h ended = ap₂ (λ b l. token (cond b (boolean true) bad) ∷ l) (ended refl) (in_word-ended r (ended refl))
lex-token_text (boolean false) r h ended = ap₂ (λ b l. token (cond b (boolean false) bad) ∷ l) (ended refl) (in_word-ended r (ended refl))
lex-token_text null r h ended = ap₂ (λ b l. token (cond b null bad) ∷ l) (ended refl) (in_word-ended r (ended refl))
lex-token_text bad r h ended = absurd h

lex-separator : (b : Bool) (r : List ℕ) → lex between (cond b (44 ∷ []) [] ++ r) ≡ cond b (comma ∷ []) [] ++ lex between r
unfolding lex
lex-separator true r = refl
lex-separator false r = refl

value_ends : (ts : List Token) (r : List ℕ) → ends_word r ≡ true → ends_word (print_from true ts ++ r) ≡ true
unfolding print_from
value_ends [] r h = h
value_ends (begin_object ∷ ts) r h = refl
value_ends (end_object ∷ ts) r h = refl
value_ends (begin_array ∷ ts) r h = refl
value_ends (end_array ∷ ts) r h = refl
value_ends (key s ∷ ts) r h = refl
value_ends (string s ∷ ts) r h = refl
value_ends (number s ∷ ts) r h = refl
value_ends (boolean b ∷ ts) r h = refl
value_ends (null ∷ ts) r h = refl
value_ends (bad ∷ ts) r h = refl

-- what is before the rest is lexed by itself
front : Bool → Token → List Lexeme
front c t = cond (c && begins t) (comma ∷ []) [] ++ token_lexemes t

lex-one : (c : Bool) (t : Token) (ts : List Token) (r : List ℕ) → IsPrintable t → ends_word r ≡ true
    → lex between (separator c t ++ (token_text t ++ (print_from (ends t) ts ++ r))) ≡ front c t ++ lex between (print_from (ends t) ts ++ r)
unfolding front
lex-one c t ts r h ended =
    lex-separator (c && begins t) (token_text t ++ (print_from (ends t) ts ++ r))
    ∙ (ap (λ l. cond (c && begins t) (comma ∷ []) [] ++ l)
    (lex-token_text t (print_from (ends t) ts ++ r) h (λ e. ap (λ b. ends_word (print_from b ts ++ r)) e ∙ value_ends ts r ended))
    ∙ sym (append_assoc (cond (c && begins t) (comma ∷ []) []) (token_lexemes t) (lex between (print_from (ends t) ts ++ r))))

pub regroup : (a b c d : List ℕ) → (a ++ (b ++ c)) ++ d ≡ a ++ (b ++ (c ++ d))
regroup a b c d = simp append_assoc

lex-newline : (c : Bool) (ts : List Token) → ArePrintable ts → lex between (print_from c ts ++ 10 ∷ []) ≡ lex between (print_from c ts ++ [])
unfolding lex print_from ArePrintable
lex-newline c [] h = refl
lex-newline c (t ∷ ts) h =
    ap (lex between) (regroup (separator c t) (token_text t) (print_from (ends t) ts) (10 ∷ []))
    ∙ (lex-one c t ts (10 ∷ []) h.0 refl
    ∙ (ap (λ l. front c t ++ l) (lex-newline (ends t) ts h.1)
    ∙ (sym (lex-one c t ts [] h.0 refl) ∙ sym (ap (lex between) (regroup (separator c t) (token_text t) (print_from (ends t) ts) [])))))

pub tokens-line : (ts : List Token) → ArePrintable ts → tokens (print ts ++ 10 ∷ []) ≡ ts
tokens-line ts h = ap (punctuate fresh) (lex-newline false ts h ∙ ap (lex between) (append-nil (print ts))) ∙ tokens-print ts h
