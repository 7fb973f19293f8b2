-- From a word back to its text, and from a number back to its server's name.
use Rattle.std.proofs.Common.{◌≡◌, ℕ, ◌≤◌, ◌<◌, ◌^◌, arith, Bool, true, false, cond, ltb, List, [], ◌∷◌, ◌++◌, length, get_or, Option, Some, None, Result, Ok, Err, refl, sym, ap, ◌∙◌, subst, ◌&&◌, codes, nat_le, nat_lt, find, position, option_map}
use Rattle.row_texts.proofs.Prelude.{CauseName, Coord, Data, GtidFault, HasText, HostPort, Interval, IsSet, NameFault, Outcome, ServerNo, after_first}
use Rattle.row_texts.proofs.Prelude.{as_printed, as_set, as_str, bytes_eq, cause_name_text, causes, coord_at, coord_data, coord_form, coord_printed}
use Rattle.row_texts.proofs.Prelude.{coord_text, ends_recoveries, eqb-true, is_set, is_space, leb-true, list_all, lt-ltb, ltb-false, name_at, name_form, name_printed}
use Rattle.row_texts.proofs.Prelude.{named_among, number_within, outcome_form, outcome_of, outcome_printed, outcome_text, position-Some}
use Rattle.row_texts.proofs.Prelude.{position_or_len, printed as set_text, rest_of, result_ok, same_name, same_name_tells, same_text, server_of}
use Rattle.row_texts.proofs.Prelude.{set_form, set_printed, split_at_first, string, take_all, text_at, word_form, word_of}
use Rattle.row_texts.proofs.Prelude.Names.{printed}
use Rattle.row_texts.proofs.Prelude.outcome
use Rattle.row_texts.proofs.Back.{both, cond_back, map_back, or_back, str_back, then_back}
use Rattle.row_texts.proofs.Sets.{set_from_is}

found_step : {X : Type 0} (p : X → Bool) (y x : X) (rest : Option X) (b : Bool) → p y ≡ b → (rest ≡ Some x → p x ≡ true) → cond b (Some y) rest ≡ Some x → p x ≡ true
found_step p y x rest true is later e = let here : y ≡ x = cc in subst (λ (z : _). p z ≡ true) here is
found_step p y x rest false is later e = later e

found : {X : Type 0} (p : X → Bool) (xs : List X) (x : X) → find p xs ≡ Some x → p x ≡ true
found p [] x e = absurd cc
found p (y ∷ xs) x e = found_step p y x (find p xs) (p y) refl (found p xs x) e

pub named_back : {W : Type 0} (word : W → List ℕ) (all : List W) (s : List ℕ) (k : W) → named_among word all s ≡ Some k → s ≡ word k
named_back {W} word all s k e = sym (same_text (word k) s (sym (found (λ (c : W). bytes_eq (word c) s) all k e)))

printed_back : (s : List ℕ) (r : Result HostPort NameFault) (n : HostPort) → as_printed s r ≡ Some n → s ≡ printed n
printed_back s (Ok m) n e =
    let c = cond_back (bytes_eq (printed m) s) m n e in
    sym (same_text (printed m) s (sym c.0)) ∙ ap printed c.1
printed_back s (Err f) n e = absurd cc

pub name_back : (s : List ℕ) (n : HostPort) → name_printed s ≡ Some n → s ≡ printed n
unfolding name_printed
name_back s n e = printed_back s (name_at s) n e

past : (n m : ℕ) (x : List ℕ) (b : Bool) → ltb n m ≡ b → cond b (Some x) None ≡ None → m ≤ n
past n m x true is e = absurd cc
past n m x false is e = ltb-false n m is

-- a text without a space is one word
no_space : (s : List ℕ) → rest_of s ≡ None → word_of s ≡ s
no_space s e = take_all (position_or_len is_space s) s (past _ _ _ (nat_lt (position_or_len is_space s) (length s)) refl e)

with_space : (s r : List ℕ) → rest_of s ≡ Some r → s ≡ word_of s ++ 32 ∷ r
with_space s r e =
    let c = cond_back (nat_lt (position_or_len is_space s) (length s)) (after_first is_space s) r e in
    let there : position is_space s ≡ Some (position_or_len is_space s) = rw c.0 refl in
    let here = position-Some is_space s (position_or_len is_space s) 0 there in
    let space : get_or s (position_or_len is_space s) 0 ≡ 32 = eqb-true _ 32 here.1 in
    split_at_first is_space s 0 here.0 ∙ ap (λ (b : ℕ). word_of s ++ (b ∷ after_first is_space s)) space ∙ ap (λ (x : List ℕ). word_of s ++ (32 ∷ x)) c.1

one_word : (b c : Bool) (w : List ℕ) (o : Outcome) → bytes_eq w (codes "unended") ≡ b → bytes_eq w (codes "interrupted") ≡ c
    → cond b (Some outcome.Unended) (cond c (Some outcome.Interrupted) None) ≡ Some o → w ≡ outcome_text o
one_word true c w o is_un is_in e = let k : outcome.Unended ≡ o = cc in same_text w (codes "unended") (sym is_un) ∙ ap outcome_text k
one_word false true w o is_un is_in e = let k : outcome.Interrupted ≡ o = cc in same_text w (codes "interrupted") (sym is_in) ∙ ap outcome_text k
one_word false false w o is_un is_in e = absurd cc

two_words : (b c : Bool) (w r : List ℕ) (o : Outcome) → bytes_eq w (codes "promoted") ≡ b → bytes_eq w (codes "failed") ≡ c
    → cond b (option_map (λ n. outcome.Promoted n) (name_printed r)) (cond c (option_map (λ k. outcome.Failed k) (named_among cause_name_text causes r)) None) ≡ Some o → (w ++ 32 ∷ r) ≡ outcome_text o
two_words true c w r o is_pro is_fail e =
    let m = map_back (λ n. outcome.Promoted n) (name_printed r) o e in
    let word : w ≡ codes "promoted" = same_text w (codes "promoted") (sym is_pro) in
    ap (λ (x : List ℕ). x ++ (32 ∷ r)) word ∙ ap (λ (x : List ℕ). codes "promoted " ++ x) (name_back r m.0 m.1) ∙ ap outcome_text m.2
two_words false true w r o is_pro is_fail e =
    let m = map_back (λ k. outcome.Failed k) (named_among cause_name_text causes r) o e in
    let word : w ≡ codes "failed" = same_text w (codes "failed") (sym is_fail) in
    ap (λ (x : List ℕ). x ++ (32 ∷ r)) word ∙ ap (λ (x : List ℕ). codes "failed " ++ x) (named_back cause_name_text causes r m.0 m.1) ∙ ap outcome_text m.2
two_words false false w r o is_pro is_fail e = absurd cc

by_rest : (s : List ℕ) (rest : Option (List ℕ)) (o : Outcome) → rest_of s ≡ rest → outcome_of (word_of s) rest ≡ Some o → s ≡ outcome_text o
by_rest s None o is e = sym (no_space s is) ∙ one_word (bytes_eq (word_of s) (codes "unended")) (bytes_eq (word_of s) (codes "interrupted")) (word_of s) o refl refl e
by_rest s (Some r) o is e = with_space s r is ∙ two_words (bytes_eq (word_of s) (codes "promoted")) (bytes_eq (word_of s) (codes "failed")) (word_of s) r o refl refl e

pub outcome_back : (s : List ℕ) (o : Outcome) → outcome_printed s ≡ Some o → s ≡ outcome_text o
unfolding outcome_printed
outcome_back s o e = by_rest s (rest_of s) o refl e

-- a cause that is read is one that ends recoveries
abbrev pub outcome_ends : Outcome → Bool
outcome_ends outcome.Unended = true
outcome_ends outcome.Interrupted = true
outcome_ends (outcome.Promoted n) = true
outcome_ends (outcome.Failed c) = ends_recoveries c

among_step : {X : Type 0} (test : X → Bool) (y x : X) (rest : Option X) (b : Bool) → test y ≡ true → (rest ≡ Some x → test x ≡ true) → cond b (Some y) rest ≡ Some x → test x ≡ true
among_step test y x rest true is later e = let here : y ≡ x = cc in subst (λ (z : _). test z ≡ true) here is
among_step test y x rest false is later e = later e

among : {X : Type 0} (p test : X → Bool) (xs : List X) (x : X) → list_all test xs ≡ true → find p xs ≡ Some x → test x ≡ true
among p test [] x all e = absurd cc
among p test (y ∷ ys) x all e =
    let each = both (test y) (list_all test ys) all in
    among_step test y x (find p ys) (p y) each.0 (among p test ys x each.1) e

cause_ends : (s : List ℕ) (c : CauseName) → named_among cause_name_text causes s ≡ Some c → ends_recoveries c ≡ true
cause_ends s c e = among (λ (k : CauseName). bytes_eq (cause_name_text k) s) ends_recoveries causes c refl e

one_ends : (b c : Bool) (o : Outcome) → cond b (Some outcome.Unended) (cond c (Some outcome.Interrupted) None) ≡ Some o → outcome_ends o ≡ true
one_ends true c o e = let k : outcome.Unended ≡ o = cc in subst (λ (x : Outcome). outcome_ends x ≡ true) k refl
one_ends false true o e = let k : outcome.Interrupted ≡ o = cc in subst (λ (x : Outcome). outcome_ends x ≡ true) k refl
one_ends false false o e = absurd cc

two_ends : (b c : Bool) (r : List ℕ) (o : Outcome)
    → cond b (option_map (λ n. outcome.Promoted n) (name_printed r)) (cond c (option_map (λ k. outcome.Failed k) (named_among cause_name_text causes r)) None) ≡ Some o → outcome_ends o ≡ true
two_ends true c r o e =
    let m = map_back (λ n. outcome.Promoted n) (name_printed r) o e in
    subst (λ (x : Outcome). outcome_ends x ≡ true) m.2 refl
two_ends false true r o e =
    let m = map_back (λ k. outcome.Failed k) (named_among cause_name_text causes r) o e in
    subst (λ (x : Outcome). outcome_ends x ≡ true) m.2 (cause_ends r m.0 m.1)
two_ends false false r o e = absurd cc

rest_ends : (word : List ℕ) (rest : Option (List ℕ)) (o : Outcome) → outcome_of word rest ≡ Some o → outcome_ends o ≡ true
rest_ends word None o e = one_ends (bytes_eq word (codes "unended")) (bytes_eq word (codes "interrupted")) o e
rest_ends word (Some r) o e = two_ends (bytes_eq word (codes "promoted")) (bytes_eq word (codes "failed")) r o e

printed_ends : (s : List ℕ) (o : Outcome) → outcome_printed s ≡ Some o → outcome_ends o ≡ true
unfolding outcome_printed
printed_ends s o e = rest_ends (word_of s) (rest_of s) o e

pub outcome_fact : (d : Data) (o : Outcome) → outcome_form d ≡ Some o → outcome_ends o ≡ true
outcome_fact d o e = let t = then_back (as_str d) outcome_printed o e in printed_ends t.0 o t.2

-- ---- the forms of fields

pub word_back : {W : Type 0} (word : W → List ℕ) (all : List W) (d : Data) (k : W) → word_form word all d ≡ Some k → d ≡ string (word k)
word_back word all d k e = let t = then_back (as_str d) (named_among word all) k e in str_back d t.0 t.1 ∙ ap string (named_back word all t.0 k t.2)

ok_only : {A F : Type 0} (r : Result A F) (x : A) → result_ok r ≡ Some x → r ≡ Ok x
ok_only (Ok y) x e = ap Ok cc
ok_only (Err f) x e = absurd cc

-- no other text reads as a coordinate than its own
abbrev pub OnlyText : Type 0
OnlyText = (text : List ℕ) (c : Coord) → coord_at text ≡ Ok c → (text ≡ coord_text c) × HasText c

coord_told : OnlyText → (s : List ℕ) (c : Coord) → coord_printed s ≡ Some c → s ≡ coord_text c
unfolding coord_printed
coord_told only s c e = (only s c (ok_only (coord_at s) c e)).0

coord_has_text : OnlyText → (s : List ℕ) (c : Coord) → coord_printed s ≡ Some c → HasText c
unfolding coord_printed
coord_has_text only s c e = (only s c (ok_only (coord_at s) c e)).1

pub coord_fact : OnlyText → (d : Data) (c : Coord) → coord_form d ≡ Some c → HasText c
coord_fact only d c e = let t = then_back (as_str d) coord_printed c e in coord_has_text only t.0 c t.2

pub coord_back : OnlyText → (d : Data) (c : Coord) → coord_form d ≡ Some c → d ≡ coord_data c
coord_back only d c e = let t = then_back (as_str d) coord_printed c e in str_back d t.0 t.1 ∙ ap string (coord_told only t.0 c t.2)

as_set_back : (s : List ℕ) (r : Result (List Interval) GtidFault) (xs : List Interval) → as_set s r ≡ Some xs → (s ≡ set_text xs) × IsSet xs
as_set_back s (Ok ys) xs e =
    let c = cond_back (is_set ys && bytes_eq (set_text ys) s) ys xs e in
    let parts = both (is_set ys) (bytes_eq (set_text ys) s) c.0 in
    (sym (same_text (set_text ys) s (sym parts.1)) ∙ ap set_text c.1, subst IsSet c.1 (set_from_is ys parts.0))
as_set_back s (Err f) xs e = absurd cc

pub set_told_back : (s : List ℕ) (xs : List Interval) → set_printed s ≡ Some xs → (s ≡ set_text xs) × IsSet xs
unfolding set_printed
set_told_back s xs e = as_set_back s (text_at s) xs e

pub set_fact : (d : Data) (xs : List Interval) → set_form d ≡ Some xs → IsSet xs
set_fact d xs e = let t = then_back (as_str d) set_printed xs e in (set_told_back t.0 xs t.2).1

pub set_back : (d : Data) (xs : List Interval) → set_form d ≡ Some xs → d ≡ string (set_text xs)
set_back d xs e = let t = then_back (as_str d) set_printed xs e in str_back d t.0 t.1 ∙ ap string (set_told_back t.0 xs t.2).0

pub name_form_back : (d : Data) (n : HostPort) → name_form d ≡ Some n → d ≡ string (printed n)
name_form_back d n e = let t = then_back (as_str d) name_printed n e in str_back d t.0 t.1 ∙ ap string (name_back t.0 n t.2)

pub outcome_form_back : (d : Data) (o : Outcome) → outcome_form d ≡ Some o → d ≡ string (outcome_text o)
outcome_form_back d o e = let t = then_back (as_str d) outcome_printed o e in str_back d t.0 t.1 ∙ ap string (outcome_back t.0 o t.2)

-- ---- servers

number_back : (o : Option ℕ) (server : ServerNo) → number_within o ≡ Some server → o ≡ Some server.0
number_back (Some n) server e = let c = cond_back (nat_le n 4294967295) (record { 0 = n }) server e in ap (λ (k : ServerNo). Some k.0) c.1
number_back None server e = absurd cc

pub server_back : (names : List HostPort) (name : HostPort) (server : ServerNo) (d : HostPort) → server_of names name ≡ Ok server → get_or names server.0 d ≡ name
unfolding server_of
server_back names name server d e =
    let place = number_back (position (λ n. same_name n name) names) server (or_back _ _ server e) in
    let here = position-Some (λ n. same_name n name) names server.0 d place in
    (same_name_tells (get_or names server.0 d) name).0 here.1

number_small : (o : Option ℕ) (server : ServerNo) → number_within o ≡ Some server → server.0 < 2 ^ 32
number_small (Some n) server e =
    let c = cond_back (nat_le n 4294967295) (record { 0 = n }) server e in
    let small : n < 2 ^ 32 = omega (arith, leb-true n 4294967295 c.0) in
    subst (λ (s : ServerNo). s.0 < 2 ^ 32) c.1 small
number_small None server e = absurd cc

pub server_small : (names : List HostPort) (name : HostPort) (server : ServerNo) → server_of names name ≡ Ok server → server.0 < 2 ^ 32
unfolding server_of
server_small names name server e = number_small (position (λ n. same_name n name) names) server (or_back _ _ server e)

pub server_known : (names : List HostPort) (name : HostPort) (server : ServerNo) → server_of names name ≡ Ok server → ltb server.0 (length names) ≡ true
unfolding server_of
server_known names name server e =
    let place = number_back (position (λ n. same_name n name) names) server (or_back _ _ server e) in
    lt-ltb _ _ (position-Some (λ n. same_name n name) names server.0 name place).0
