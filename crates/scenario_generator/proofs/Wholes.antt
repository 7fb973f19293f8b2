-- The whole text and its parts.
use Rattle.std.proofs.Common.{◌≡◌, ◌∙◌, ℕ, Bool, true, false, ◌∷◌, List, [], ◌++◌, Option, sym, ap, subst, refl, append_assoc, codes}
use Rattle.scenario_generator.proofs.Prelude.{Appends, AppendsFront, IsHanded, Items, comma_if, compact_text, digits, drawn_data, escape_byte, item}
use Rattle.scenario_generator.proofs.Prelude.{items_text, listed, no_items, scenario_text, servers_data, servers_from, servers_text, turns_data}
use Rattle.scenario_generator.proofs.Prelude.{turns_from, turns_text}
use Rattle.scenario_generator.proofs.Sends.{front_more, front_of_longer, takes_more, takes_nothing}

-- the items, and the closing bracket
items_text-listed : (later : Bool) (ds : Items) → items_text later ds ≡ listed later ds ++ 93 ∷ []
items_text-listed later no_items = refl
items_text-listed later (item d ds) =
    ap (λ (v : List ℕ). comma_if later ++ (compact_text d ++ v)) (items_text-listed true ds)
    ∙ (ap (λ (v : List ℕ). comma_if later ++ v) (sym (append_assoc (compact_text d) (listed true ds) (93 ∷ []))) ∙ sym (append_assoc (comma_if later) (compact_text d ++ listed true ds) (93 ∷ [])))

whole_shape : (s t m e : List ℕ) → ((s ++ 93 ∷ []) ++ (m ++ ((t ++ 93 ∷ []) ++ e))) ++ 10 ∷ [] ≡ ((s ++ 93 ∷ m) ++ t) ++ 93 ∷ (e ++ 10 ∷ [])
whole_shape s t m e = simp append_assoc

parts : (seed servers turns : ℕ)
    → scenario_text seed servers turns
    ≡ (((codes "{\"servers\":[" ++ servers_text (servers_from seed servers).drawn) ++ codes "],\"turns\":[") ++ turns_text (turns_from servers (servers_from seed servers).number turns).drawn)
    ++ codes "],\"version\":1}\n"
unfolding scenario_text drawn_data servers_text turns_text escape_byte digits
parts seed servers turns =
    let ss = servers_data 0 (servers_from seed servers).drawn in
    let ts = turns_data (turns_from servers (servers_from seed servers).number turns).drawn in
    rw (items_text-listed false ss) (rw (items_text-listed false ts)
    (ap (λ (v : List ℕ). codes "{\"servers\":[" ++ v) (whole_shape (listed false ss) (listed false ts) (codes ",\"turns\":[") (codes ",\"version\":1}"))))

-- by the number that the turns go on from
pub scenario_parts : (seed servers turns x : ℕ) → x ≡ (servers_from seed servers).number
    → scenario_text seed servers turns
    ≡ (((codes "{\"servers\":[" ++ servers_text (servers_from seed servers).drawn) ++ codes "],\"turns\":[") ++ turns_text (turns_from servers x turns).drawn) ++ codes "],\"version\":1}\n"
scenario_parts seed servers turns x same =
    subst
    (λ n. scenario_text seed servers turns
    ≡ (((codes "{\"servers\":[" ++ servers_text (servers_from seed servers).drawn) ++ codes "],\"turns\":[") ++ turns_text (turns_from servers n turns).drawn) ++ codes "],\"version\":1}\n")
    (sym same) (parts seed servers turns)

-- ---- the text on its way

-- all of it is waiting
pub all_held : (old : Option (List ℕ)) (held text : List ℕ) → held ≡ text → IsHanded old old held text
all_held old held text same = record { front = []; took = takes_nothing old; is = sym same }

-- more is waiting
pub more_held : (before now : Option (List ℕ)) (held held' text more : List ℕ) → held' ≡ held ++ more → IsHanded before now held text → IsHanded before now held' (text ++ more)
more_held before now held held' text more added h = record {
  front = h.front;
  took = h.took;
  is = ap (λ (v : List ℕ). v ++ more) h.is ∙ (append_assoc h.front held more ∙ ap (λ (v : List ℕ). h.front ++ v) (sym added));
}

-- the rest is taken
pub all_taken : (before now after : Option (List ℕ)) (held lent text whole : List ℕ) → whole ≡ text → lent ≡ held → IsHanded before now held text → Appends now after lent → Appends before after whole
all_taken before now after held lent text whole same lends h took =
    subst (λ (v : List ℕ). Appends before after v) (sym (same ∙ h.is)) (takes_more before now after h.front held h.took (subst (λ (v : List ℕ). Appends now after v) lends took))

-- a prefix of some parts is one of the whole
pub front_of_two : (before after : Option (List ℕ)) (a b c whole : List ℕ) → whole ≡ (a ++ b) ++ c → AppendsFront before after a → AppendsFront before after whole
front_of_two before after a b c whole same took = subst (λ (v : List ℕ). AppendsFront before after v) (sym same) (front_of_longer before after (a ++ b) c (front_of_longer before after a b took))

pub front_of_whole : (before after : Option (List ℕ)) (a b whole : List ℕ) → whole ≡ a ++ b → AppendsFront before after a → AppendsFront before after whole
front_of_whole before after a b whole same took = subst (λ (v : List ℕ). AppendsFront before after v) (sym same) (front_of_longer before after a b took)

-- a prefix of the rest was taken
pub rest_front : (before now after : Option (List ℕ)) (held lent text whole : List ℕ) → whole ≡ text → lent ≡ held → IsHanded before now held text → AppendsFront now after lent → AppendsFront before after whole
rest_front before now after held lent text whole same lends h took =
    subst (λ (v : List ℕ). AppendsFront before after v) (sym (same ∙ h.is)) (front_more before now after h.front held h.took (subst (λ (v : List ℕ). AppendsFront now after v) lends took))
