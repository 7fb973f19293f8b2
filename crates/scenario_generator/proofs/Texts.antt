-- Texts and their parts.
use Rattle.std.proofs.Common.{◌≡◌, ◌∙◌, ◌==◌, ℕ, zero, suc, ◌+◌, ◌/◌, ◌%◌, Bool, true, false, cond, Result, Ok, Err, subst, ◌∷◌, List, [], ◌++◌, length, drop, sym, ap, refl, arith, append_assoc, decimal, OnOk, codes, if◌then◌else◌, is_ok, nat_lt}
use Rattle.scenario_generator.proofs.Prelude.{Apply, Fetch, PollRead, PollStore, Replica, Root, Rotate, Write, common_steps, digit_glyph, digits}
use Rattle.scenario_generator.proofs.Prelude.{digits_onto, drop-nil, escape, escape_byte, escape_byte_plain, padded, server_name, server_text}
use Rattle.scenario_generator.proofs.Prelude.{turn_text}

-- ---- names are quoted as they are

pub escape-append : (a b : List ℕ) → escape (a ++ b) ≡ escape a ++ escape b
escape-append [] b = refl
escape-append (x ∷ xs) b = ap (λ (v : List ℕ). escape_byte x ++ v) (escape-append xs b) ∙ sym (append_assoc (escape_byte x) (escape xs) (escape b))

pub plain_glyph : (n : ℕ) → escape_byte (digit_glyph false (n % 10)) ≡ digit_glyph false (n % 10) ∷ []
plain_glyph n =
    let same : digit_glyph false (n % 10) ≡ 48 + n % 10 = grind (arith, common_steps) in
    rw same (escape_byte_plain (48 + n % 10) (λ e. omega arith) (λ e. omega arith) (omega arith))

pub escape-either : (b : Bool) (x y : List ℕ) → escape x ≡ x → escape y ≡ y → escape (cond b x y) ≡ cond b x y
escape-either true x y same same' = same
escape-either false x y same same' = same'

pub escape-glyph : (n : ℕ) (acc : List ℕ) → escape acc ≡ acc → escape (digit_glyph false (n % 10) ∷ acc) ≡ digit_glyph false (n % 10) ∷ acc
escape-glyph n acc same = ap (λ (v : List ℕ). v ++ escape acc) (plain_glyph n) ∙ ap (λ (v : List ℕ). digit_glyph false (n % 10) ∷ v) same

pub escape-onto : (k n : ℕ) (acc : List ℕ) → escape acc ≡ acc → escape (digits_onto k 10 false n acc) ≡ digits_onto k 10 false n acc
escape-onto zero n acc same = same
escape-onto (suc k) n acc same =
    let last = escape-glyph n acc same in
    escape-either (n / 10 == 0) (digit_glyph false (n % 10) ∷ acc) (digits_onto k 10 false (n / 10) (digit_glyph false (n % 10) ∷ acc)) last (escape-onto k (n / 10) (digit_glyph false (n % 10) ∷ acc) last)

pub escape-decimal : (n : ℕ) → escape (decimal n) ≡ decimal n
unfolding digits
escape-decimal n = escape-onto 64 n [] refl

escape-zeros : (k : ℕ) → escape (drop k (codes "0000")) ≡ drop k (codes "0000")
unfolding escape_byte
escape-zeros zero = refl
escape-zeros (suc (suc (suc (suc k)))) = rw (drop-nil k)
escape-zeros _ = refl

escape-padded : (ds : List ℕ) → escape ds ≡ ds → escape (padded ds) ≡ padded ds
escape-padded ds same = escape-append (drop (length ds) (codes "0000")) ds ∙ rw (escape-zeros (length ds), same)

pub escape-server_name : (n : ℕ) → escape (server_name n) ≡ server_name n
unfolding server_name escape_byte
escape-server_name n = ap (λ (v : List ℕ). 115 ∷ v) (escape-padded (decimal (n + 1)) (escape-decimal (n + 1)))

-- ---- what is printed of servers

root_shape : (q a b : List ℕ) → (((q ++ 34 ∷ []) ++ a) ++ 93 ∷ []) ++ (b ++ ((q ++ 34 ∷ []) ++ 125 ∷ [])) ≡ (q ++ (34 ∷ (a ++ 93 ∷ []))) ++ (b ++ (q ++ 34 ∷ 125 ∷ []))
root_shape q a b = simp append_assoc

pub root_text : (n : ℕ)
    → server_text n Root ≡ codes "{\"history\":[[\"" ++ ((server_name n ++ codes "\",100,20]]") ++ (codes ",\"name\":\"" ++ (server_name n ++ codes "\"}")))
unfolding server_text escape_byte digits
root_text n = rw (escape-server_name n) (ap (λ (v : List ℕ). codes "{\"history\":[[\"" ++ v) (root_shape (server_name n) (codes ",100,20]") (codes ",\"name\":\"")))

replica_shape : (d q r b c : List ℕ)
    → (d ++ (b ++ ((q ++ 34 ∷ []) ++ (c ++ ((r ++ 34 ∷ []) ++ 125 ∷ []))))) ≡ (d ++ (b ++ (q ++ 34 ∷ []))) ++ (c ++ (r ++ 34 ∷ 125 ∷ []))
replica_shape d q r b c = simp append_assoc

pub replica_text : (n source executed : ℕ)
    → server_text n (Replica source executed)
    ≡ codes "{\"executed\":" ++ ((decimal executed ++ (codes ",\"name\":\"" ++ (server_name n ++ codes "\""))) ++ (codes ",\"source\":\"" ++ (server_name source ++ codes "\"}")))
unfolding server_text escape_byte
replica_text n source executed =
    rw (escape-server_name n) (rw (escape-server_name source)
    (ap (λ (v : List ℕ). codes "{\"executed\":" ++ v) (replica_shape (decimal executed) (server_name n) (server_name source) (codes ",\"name\":\"") (codes ",\"source\":\""))))

-- ---- what is printed of turns

write_shape : (d q : List ℕ) → (q ++ 34 ∷ []) ++ (44 ∷ (d ++ 93 ∷ [])) ≡ ((q ++ 34 ∷ 44 ∷ []) ++ d) ++ 93 ∷ []
write_shape d q = simp append_assoc

pub write_text : (root size : ℕ) → turn_text (Write root size) ≡ codes "[\"write\",\"" ++ (((server_name root ++ codes "\",") ++ decimal size) ++ codes "]")
unfolding turn_text escape_byte
write_text root size = rw (escape-server_name root) (ap (λ (v : List ℕ). codes "[\"write\",\"" ++ v) (write_shape (decimal size) (server_name root)))

named_shape : (q : List ℕ) → (q ++ 34 ∷ []) ++ 93 ∷ [] ≡ q ++ 34 ∷ 93 ∷ []
named_shape q = simp append_assoc

pub fetch_text : (n : ℕ) → turn_text (Fetch n) ≡ codes "[\"fetch\",\"" ++ (server_name n ++ codes "\"]")
unfolding turn_text escape_byte
fetch_text n = rw (escape-server_name n) (ap (λ (v : List ℕ). codes "[\"fetch\",\"" ++ v) (named_shape (server_name n)))

pub apply_text : (n : ℕ) → turn_text (Apply n) ≡ codes "[\"apply\",\"" ++ (server_name n ++ codes "\"]")
unfolding turn_text escape_byte
apply_text n = rw (escape-server_name n) (ap (λ (v : List ℕ). codes "[\"apply\",\"" ++ v) (named_shape (server_name n)))

pub rotate_text : (n : ℕ) → turn_text (Rotate n) ≡ codes "[\"rotate\",\"" ++ (server_name n ++ codes "\"]")
unfolding turn_text escape_byte
rotate_text n = rw (escape-server_name n) (ap (λ (v : List ℕ). codes "[\"rotate\",\"" ++ v) (named_shape (server_name n)))

pub poll_text : (n : ℕ) → turn_text (PollRead n) ≡ codes "[\"poll-read\",0,\"" ++ (server_name n ++ codes "\"]")
unfolding turn_text escape_byte digits
poll_text n = rw (escape-server_name n) (ap (λ (v : List ℕ). codes "[\"poll-read\",0,\"" ++ v) (named_shape (server_name n)))

pub store_text : turn_text PollStore ≡ codes "[\"poll-store\",0]"
unfolding turn_text escape_byte digits
store_text = refl

-- ---- what was printed

-- the last part ends the text
pub printed : {T E : Type 0} (r : Result T E) (new mid out first last text : List ℕ) → mid ≡ out ++ first → text ≡ first ++ last → OnOk r (new ≡ mid ++ last) → OnOk r (new ≡ out ++ text)
printed (Ok x) new mid out first last text before whole ok = ok ∙ (ap (λ (v : List ℕ). v ++ last) before ∙ (append_assoc out first last ∙ ap (λ (v : List ℕ). out ++ v) (sym whole)))
printed (Err e) new mid out first last text before whole ok = ok

-- it is the text
pub printed_once : {T E : Type 0} (r : Result T E) (new out part text : List ℕ) → text ≡ part → OnOk r (new ≡ out ++ part) → OnOk r (new ≡ out ++ text)
printed_once r new out part text whole ok = subst (λ (v : List ℕ). OnOk r (new ≡ out ++ v)) (sym whole) ok

-- bytes that were added, if they were
pub appended : {T E : Type 0} (r : Result T E) (new old bytes : List ℕ) → new ≡ (if is_ok r then old ++ bytes else old) → OnOk r (new ≡ old ++ bytes)
appended (Ok x) new old bytes is = is
appended (Err e) new old bytes is = tt

pub two_printed : (one two out a b : List ℕ) → one ≡ out ++ a → two ≡ one ++ b → two ≡ out ++ (a ++ b)
two_printed one two out a b first second = second ∙ (ap (λ (v : List ℕ). v ++ b) first ∙ append_assoc out a b)

-- ---- lists

-- after the first one something is before
pub some_before : (k : ℕ) → nat_lt 0 (suc k) ≡ true
some_before k = grind (arith, common_steps)
