-- The strings and keys of a JSON text that is UTF-8 are UTF-8.
use Rattle.std.proofs.Common.{◌≡◌, ◌<◌, ◌+◌, ◌==◌, ◌&&◌, ℕ, zero, suc, Bool, true, false, cond, List, [], ◌∷◌, ◌++◌, length, get_or, drop, Option, Some, None, IsUtf8, refl, sym, subst, arith}
use Rattle.read_back_laws.proofs.Prelude.{Class, IsCharBoundary-after_ascii, IsUtf8-drop, Json, Lexeme, Mode, Place, Token, after_number, begins_colon, class}
use Rattle.read_back_laws.proofs.Prelude.{content, ends_word, eqb-true, head, if_allowed, items_tokens, json_tokens, lex, lex_byte, may_begin, may_close}
use Rattle.read_back_laws.proofs.Prelude.{members_tokens, number_before, operator_lexeme, place_token, plain, punctuate, starts_with, string_token, tokens}
use Rattle.read_back_laws.proofs.Prelude.{value, value-json_tokens_back, word}
use Rattle.read_back_laws.proofs.Prelude.ascii
use Rattle.read_back_laws.proofs.Prelude.json
use Rattle.read_back_laws.proofs.Prelude.lexing
use Rattle.read_back_laws.proofs.Prelude.tok
use Rattle.std.specs.Prelude.{⊤, nat_eq}
use Rattle.read_back_laws.proofs.Contents.{Good, content-utf8}

-- a string or a key is UTF-8
abbrev pub TokenUtf8 : Token → Type 0
TokenUtf8 (tok.key s) = IsUtf8 s
TokenUtf8 (tok.string s) = IsUtf8 s
TokenUtf8 _ = ⊤

abbrev pub TokensUtf8 : List Token → Type 0
TokensUtf8 [] = ⊤
TokensUtf8 (t ∷ ts) = TokenUtf8 t × TokensUtf8 ts

abbrev LexemeUtf8 : Lexeme → Type 0
LexemeUtf8 (lexing.token t) = TokenUtf8 t
LexemeUtf8 lexing.comma = ⊤
LexemeUtf8 lexing.colon = ⊤

abbrev LexemesUtf8 : List Lexeme → Type 0
LexemesUtf8 [] = ⊤
LexemesUtf8 (l ∷ ls) = LexemeUtf8 l × LexemesUtf8 ls

-- ---- lexemes

-- what is after each quote is UTF-8
abbrev AfterQuotes : List ℕ → Type 0
AfterQuotes xs = (n : ℕ) → n < length xs → get_or xs n 0 ≡ 34 → IsUtf8 (drop (suc n) xs)

after-quotes : (xs : List ℕ) → IsUtf8 xs → AfterQuotes xs
after-quotes xs u n less is =
    let next : n + 1 ≡ suc n = omega arith in
    subst (λ k. IsUtf8 (drop k xs)) next (IsUtf8-drop xs (n + 1) u (IsCharBoundary-after_ascii xs n u less (omega arith)))

either-text : (b : Bool) (s t : Token) → TokenUtf8 s → TokenUtf8 t → TokenUtf8 (cond b s t)
either-text true s t first second = first
either-text false s t first second = second

either-lexeme : (b : Bool) (s t : Lexeme) → LexemeUtf8 s → LexemeUtf8 t → LexemeUtf8 (cond b s t)
either-lexeme true s t first second = first
either-lexeme false s t first second = second

number-text : (t : List ℕ) (o : Option (List ℕ)) → TokenUtf8 (number_before t o)
number-text t None = tt
number-text t (Some rest) = either-text (ends_word rest) _ tok.bad tt tt

word-text : (t : List ℕ) → TokenUtf8 (word t)
unfolding word
word-text t =
    either-text (head t == ascii.lower_t) _ _ (either-text (starts_with nat_eq t ascii.true_text && ends_word (drop (length ascii.true_text) t)) (tok.boolean true) tok.bad tt tt)
    (either-text (head t == ascii.lower_f) _ _ (either-text (starts_with nat_eq t ascii.false_text && ends_word (drop (length ascii.false_text) t)) (tok.boolean false) tok.bad tt tt)
    (either-text (head t == ascii.lower_n) _ _ (either-text (starts_with nat_eq t ascii.null_text && ends_word (drop (length ascii.null_text) t)) tok.null tok.bad tt tt) (number-text t (after_number t))))

operator-text : (x : ℕ) → LexemeUtf8 (operator_lexeme x)
operator-text x =
    either-lexeme (x == ascii.open_brace) _ _ tt (either-lexeme (x == ascii.close_brace) _ _ tt (either-lexeme (x == ascii.open_bracket) _ _ tt (either-lexeme (x == ascii.close_bracket) _ _ tt (either-lexeme (x == ascii.comma) lexing.comma lexing.colon tt tt))))

string-text : (o : Option (List ℕ)) → Good o → TokenUtf8 (string_token o)
string-text None good = tt
string-text (Some s) good = good

byte-texts : (m : Mode) (c : Class) (x : ℕ) (xs : List ℕ) (k : Mode → List Lexeme) → (c ≡ lexing.quote → TokenUtf8 (string_token (content plain xs))) → ((next : Mode) → LexemesUtf8 (k next)) → LexemesUtf8 (lex_byte m c x xs k)
byte-texts lexing.between lexing.quote x xs k quoted rest = (quoted refl, rest lexing.in_string)
byte-texts lexing.between lexing.backslash x xs k quoted rest = (tt, rest lexing.in_word)
byte-texts lexing.between lexing.operator x xs k quoted rest = (operator-text x, rest lexing.between)
byte-texts lexing.between lexing.space x xs k quoted rest = rest lexing.between
byte-texts lexing.between lexing.other x xs k quoted rest = (word-text (x ∷ xs), rest lexing.in_word)
byte-texts lexing.in_word lexing.quote x xs k quoted rest = rest lexing.in_word
byte-texts lexing.in_word lexing.backslash x xs k quoted rest = rest lexing.in_word
byte-texts lexing.in_word lexing.operator x xs k quoted rest = (operator-text x, rest lexing.between)
byte-texts lexing.in_word lexing.space x xs k quoted rest = rest lexing.between
byte-texts lexing.in_word lexing.other x xs k quoted rest = rest lexing.in_word
byte-texts lexing.in_string lexing.quote x xs k quoted rest = rest lexing.between
byte-texts lexing.in_string lexing.backslash x xs k quoted rest = rest lexing.in_escape
byte-texts _ _ x xs k quoted rest = rest lexing.in_string

-- a class other than that of a quote
IsQuote : Class → Type 0
IsQuote lexing.quote = ⊤
IsQuote _ = ⊥

quote-is : (x : ℕ) → class x ≡ lexing.quote → x ≡ 34
unfolding IsQuote
quote-is x e = go (x == 34) (x == 92) _ _ refl (subst IsQuote (sym e) tt)
  where
    spaces : (b : Bool) → IsQuote (cond b lexing.space lexing.other) → ⊥
    spaces true q = q
    spaces false q = q

    operators : (a b : Bool) → IsQuote (cond a lexing.operator (cond b lexing.space lexing.other)) → ⊥
    operators true b q = q
    operators false true q = q
    operators false false q = q

    go : (a b c d : Bool) → (x == 34) ≡ a → IsQuote (cond a lexing.quote (cond b lexing.backslash (cond c lexing.operator (cond d lexing.space lexing.other)))) → x ≡ 34
    go true b c d is q = eqb-true x 34 is
    go false false false true is q = absurd q
    go _ _ _ _ is q = absurd q

lex-texts : (m : Mode) (xs : List ℕ) → AfterQuotes xs → LexemesUtf8 (lex m xs)
unfolding lex
lex-texts m [] behind = tt
lex-texts m (x ∷ xs) behind =
    byte-texts m (class x) x xs (λ next. lex next xs)
    (λ is. string-text (content plain xs) (content-utf8 xs (behind zero (omega arith) (quote-is x is))))
    (λ next. lex-texts next xs (λ n less is. behind (suc n) (omega arith) is))

-- ---- tokens

allowed-texts : (b : Bool) (t : Token) (k : Place → List Token) (next : Place) → TokenUtf8 t → ((p : Place) → TokensUtf8 (k p)) → TokensUtf8 (if_allowed b t k next)
allowed-texts true t k next text rest = (text, rest next)
allowed-texts false t k next text rest = (tt, tt)

place-texts : (p : Place) (t : Token) (b : Bool) (k : Place → List Token) → TokenUtf8 t → ((q : Place) → TokensUtf8 (k q)) → TokensUtf8 (place_token p t b k)
place-texts p tok.begin_object b k text rest = allowed-texts (may_begin p) tok.begin_object k lexing.fresh tt rest
place-texts p tok.end_object b k text rest = allowed-texts (may_close p) tok.end_object k lexing.after_value tt rest
place-texts p tok.begin_array b k text rest = allowed-texts (may_begin p) tok.begin_array k lexing.fresh tt rest
place-texts p tok.end_array b k text rest = allowed-texts (may_close p) tok.end_array k lexing.after_value tt rest
place-texts p (tok.key s) b k text rest = (tt, tt)
place-texts p (tok.string s) true k text rest = allowed-texts (may_begin p) (tok.key s) k lexing.after_key text rest
place-texts p (tok.string s) false k text rest = allowed-texts (may_begin p) (tok.string s) k lexing.after_value text rest
place-texts p tok.bad b k text rest = (tt, tt)
place-texts p x b k text rest = allowed-texts (may_begin p) x k lexing.after_value tt rest

punctuate-texts : (p : Place) (ls : List Lexeme) → LexemesUtf8 ls → TokensUtf8 (punctuate p ls)
unfolding punctuate
punctuate-texts lexing.fresh [] all = tt
punctuate-texts lexing.after_value [] all = tt
punctuate-texts lexing.fresh (lexing.token t ∷ ls) all = place-texts lexing.fresh t (begins_colon ls) (λ next. punctuate next ls) all.0 (λ q. punctuate-texts q ls all.1)
punctuate-texts lexing.after_value (lexing.token t ∷ ls) all = place-texts lexing.after_value t (begins_colon ls) (λ next. punctuate next ls) all.0 (λ q. punctuate-texts q ls all.1)
punctuate-texts lexing.after_comma (lexing.token t ∷ ls) all = place-texts lexing.after_comma t (begins_colon ls) (λ next. punctuate next ls) all.0 (λ q. punctuate-texts q ls all.1)
punctuate-texts lexing.after_key (lexing.token t ∷ ls) all = place-texts lexing.after_key t (begins_colon ls) (λ next. punctuate next ls) all.0 (λ q. punctuate-texts q ls all.1)
punctuate-texts lexing.fresh (lexing.comma ∷ ls) all = (tt, tt)
punctuate-texts lexing.after_value (lexing.comma ∷ ls) all = punctuate-texts lexing.after_comma ls all.1
punctuate-texts lexing.after_comma (lexing.comma ∷ ls) all = (tt, tt)
punctuate-texts lexing.after_key (lexing.colon ∷ ls) all = punctuate-texts lexing.fresh ls all.1
punctuate-texts _ _ all = (tt, tt)

pub tokens-texts : (text : List ℕ) → IsUtf8 text → TokensUtf8 (tokens text)
tokens-texts text u = punctuate-texts lexing.fresh (lex lexing.between text) (lex-texts lexing.between text (after-quotes text u))

-- ---- values

abbrev mutual
  pub JsonUtf8 : Json → Type 0
  JsonUtf8 (json.string s) = IsUtf8 s
  JsonUtf8 (json.array js) = JsonItemsUtf8 js
  JsonUtf8 (json.object ms) = JsonMembersUtf8 ms
  JsonUtf8 _ = ⊤

  pub JsonItemsUtf8 : json.Items → Type 0
  JsonItemsUtf8 json.no_items = ⊤
  JsonItemsUtf8 (json.item j js) = JsonUtf8 j × JsonItemsUtf8 js

  pub JsonMembersUtf8 : json.Members → Type 0
  JsonMembersUtf8 json.no_members = ⊤
  JsonMembersUtf8 (json.member k j ms) = IsUtf8 k × JsonUtf8 j × JsonMembersUtf8 ms

texts-first : (ts us : List Token) → TokensUtf8 (ts ++ us) → TokensUtf8 ts
texts-first [] us all = tt
texts-first (t ∷ ts) us all = (all.0, texts-first ts us all.1)

texts-rest : (ts us : List Token) → TokensUtf8 (ts ++ us) → TokensUtf8 us
texts-rest [] us all = all
texts-rest (t ∷ ts) us all = texts-rest ts us all.1

mutual
  json-texts : (j : Json) → TokensUtf8 (json_tokens j) → JsonUtf8 j
  json-texts (json.string s) all = all.0
  json-texts (json.array js) all = items-texts js all.1
  json-texts (json.object ms) all = members-texts ms all.1
  json-texts _ all = tt

  items-texts : (js : json.Items) → TokensUtf8 (items_tokens js) → JsonItemsUtf8 js
  items-texts json.no_items all = tt
  items-texts (json.item j js) all = (json-texts j (texts-first (json_tokens j) (items_tokens js) all), items-texts js (texts-rest (json_tokens j) (items_tokens js) all))

  members-texts : (ms : json.Members) → TokensUtf8 (members_tokens ms) → JsonMembersUtf8 ms
  members-texts json.no_members all = tt
  members-texts (json.member k j ms) all = (all.0, json-texts j (texts-first (json_tokens j) (members_tokens ms) all.1), members-texts ms (texts-rest (json_tokens j) (members_tokens ms) all.1))

-- a value whose tokens are UTF-8
pub value-texts : (depth : ℕ) (ts : List Token) (j : Json) (rest : List Token) → TokensUtf8 ts → value depth ts ≡ Some (j, rest) → JsonUtf8 j
value-texts depth ts j rest all e = json-texts j (texts-first (json_tokens j) rest (subst TokensUtf8 (value-json_tokens_back depth ts rest j e) all))
