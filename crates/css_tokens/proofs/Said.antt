-- What a character adds to a content.
use Rattle.std.proofs.Common.{◌≡◌, ℕ, ◌+◌, ◌-◌, ◌*◌, ◌<◌, ◌≤◌, List, [], ◌∷◌, ◌++◌, length, drop, get_or, Bool, true, false, ◌&&◌, cond, refl, sym, ap, ap₂, ◌∙◌, subst, arith, append_assoc, nat_eq, nat_lt, add-one, drop-cons}
use Rattle.std.proofs.lemmas.Bool.{and_parts}
use Rattle.std.proofs.lemmas.Bool.Decides.{nat_tests}
use Rattle.std.proofs.lemmas.List.{at_drop_more, drop_all}
use Rattle.std.specs.Char.{digit_value, encode_utf8, is_ascii_hexdigit}
use Rattle.std.specs.List.{list_all}
use lib.Utf8.{encode, encodes}
use Rattle.css_tokens.specs.declared.content.Part.{Part}
use Rattle.css_tokens.specs.declared.content.Part.TheVariants.{Outside, Begun, Digits, Return, Over}
use Rattle.css_tokens.specs.declared.content.End.{End}
use Rattle.css_tokens.specs.declared.content.End.TheVariants as end
use Rattle.css_tokens.specs.declared.content.Said.{Said}
use Rattle.css_tokens.specs.Contents.{behind, behind_digits, content_from, flush, is_space, meant, outside, step}
use Rattle.css_tokens.specs.Private.Contents.{Says, ends_of, escaped_text, is_over}
use Rattle.css_tokens.proofs.ContentLemmas.{high_encode, is_high}

-- A character from U+0080 on.

high_end : (e : End) (b : ℕ) → is_high b ≡ true → ends_of e b ≡ false
high_end end.Never b h = refl
high_end end.Paren b h = grind (arith, nat_tests)
high_end end.DoubleQuote b h = grind (arith, nat_tests)
high_end end.SingleQuote b h = grind (arith, nat_tests)
high_end end.Address b h = grind (arith, nat_tests)

high_slash : (b : ℕ) → is_high b ≡ true → nat_eq b 92 ≡ false
high_slash b h = grind (arith, nat_tests)

high_feed : (b : ℕ) → is_high b ≡ true → nat_eq b 10 ≡ false
high_feed b h = grind (arith, nat_tests)

high_return : (b : ℕ) → is_high b ≡ true → nat_eq b 13 ≡ false
high_return b h = grind (arith, nat_tests)

high_form : (b : ℕ) → is_high b ≡ true → nat_eq b 12 ≡ false
high_form b h = grind (arith, nat_tests)

high_space : (b : ℕ) → is_high b ≡ true → is_space b ≡ false
high_space b h = grind (arith, nat_tests)

high_hex : (b : ℕ) → is_high b ≡ true → is_ascii_hexdigit b ≡ false
high_hex b h = grind (arith, nat_tests)

pub high_outside : (e : End) (b : ℕ) → is_high b ≡ true → outside (ends_of e) b ≡ (Outside, b ∷ [])
high_outside e b h = rw (high_end e b h) (rw (high_slash b h) refl)

high_digits : (e : End) (b : ℕ) → is_high b ≡ true → behind_digits (ends_of e) b ≡ (Outside, b ∷ [])
high_digits e b h =
    ap (λ x. cond x (Return, []) (cond (is_space b) (Outside, []) (outside (ends_of e) b))) (high_return b h)
    ∙ ap (λ x. cond x (Outside, []) (outside (ends_of e) b)) (high_space b h)
    ∙ high_outside e b h

abbrev pub high_part : Part → Part
high_part Over = Over
high_part p = Outside

abbrev pub high_says : Part → List ℕ → List ℕ
high_says Over t = []
high_says p t = flush p ++ t

high_step : (e : End) (p : Part) (b : ℕ) → is_high b ≡ true → step (ends_of e) p b ≡ (high_part p, high_says p (b ∷ []))
high_step e Outside b h = high_outside e b h
high_step e Begun b h = rw (high_hex b h) (rw (high_return b h) (rw (high_feed b h) (rw (high_form b h) refl)))
high_step e (Digits more v) b h =
    ap (λ x. cond (x && nat_lt 0 more) (Digits (more - 1) (v * 16 + digit_value b), []) (behind (encode_utf8 (meant v)) (behind_digits (ends_of e) b))) (high_hex b h)
    ∙ ap (behind (encode_utf8 (meant v))) (high_digits e b h)
high_step e Return b h = rw (high_feed b h) (high_outside e b h)
high_step e Over b h = refl

high_more : (e : End) (bs rest : List ℕ) → list_all is_high bs ≡ true → content_from (ends_of e) Outside (bs ++ rest) ≡ bs ++ content_from (ends_of e) Outside rest
high_more e [] rest h = refl
high_more e (b ∷ bs) rest h =
    let p = and_parts (is_high b) (list_all is_high bs) h in
    ap (λ (x : Part × List ℕ). x.1 ++ content_from (ends_of e) x.0 (bs ++ rest)) (high_outside e b p.0)
    ∙ ap (λ t. b ∷ t) (high_more e bs rest p.1)

over_none : (ends : ℕ → Bool) (t : List ℕ) → content_from ends Over t ≡ []
over_none ends [] = refl
over_none ends (b ∷ t) = over_none ends t

high_go : (e : End) (p : Part) (b : ℕ) (bs rest : List ℕ) → is_high b ≡ true → list_all is_high bs ≡ true → high_part p ≡ Outside → high_says p (b ∷ []) ≡ flush p ++ b ∷ [] → content_from (ends_of e) p (b ∷ bs ++ rest) ≡ (flush p ++ b ∷ bs) ++ content_from (ends_of e) Outside rest
high_go e p b bs rest h k i j =
    ap (λ (x : Part × List ℕ). x.1 ++ content_from (ends_of e) x.0 (bs ++ rest)) (high_step e p b h)
    ∙ ap₂ (λ (t : List ℕ) (r : Part). t ++ content_from (ends_of e) r (bs ++ rest)) j i
    ∙ ap (λ t. (flush p ++ b ∷ []) ++ t) (high_more e bs rest k)
    ∙ sym (append_assoc (flush p ++ b ∷ []) bs (content_from (ends_of e) Outside rest))
    ∙ ap (λ t. t ++ content_from (ends_of e) Outside rest) (append_assoc (flush p) (b ∷ []) bs)

behind_high : (e : End) (p : Part) (b : ℕ) (bs rest : List ℕ) → is_high b ≡ true → list_all is_high bs ≡ true → content_from (ends_of e) p (b ∷ bs ++ rest) ≡ high_says p (b ∷ bs) ++ content_from (ends_of e) (high_part p) rest
behind_high e Over b bs rest h k = over_none (ends_of e) (bs ++ rest) ∙ sym (over_none (ends_of e) rest)
behind_high e Outside b bs rest h k = high_go e Outside b bs rest h k refl refl
behind_high e Begun b bs rest h k = high_go e Begun b bs rest h k refl refl
behind_high e (Digits more v) b bs rest h k = high_go e (Digits more v) b bs rest h k refl refl
behind_high e Return b bs rest h k = high_go e Return b bs rest h k refl refl

pub high_content : (e : End) (p : Part) (c : ℕ) (rest : List ℕ) → 128 ≤ c → content_from (ends_of e) p (encode c ++ rest) ≡ high_says p (encode c) ++ content_from (ends_of e) (high_part p) rest
high_content e p c rest h =
    let a = high_encode c h in
    let q = and_parts (is_high a.0) (list_all is_high a.1) (subst (λ x. list_all is_high x ≡ true) a.2 a.3) in
    subst (λ t. content_from (ends_of e) p (t ++ rest) ≡ high_says p t ++ content_from (ends_of e) (high_part p) rest) (sym a.2) (behind_high e p a.0 a.1 rest q.0 q.1)

says_flush : (e : End) (p : Part) (c : ℕ) (f : List ℕ) → 128 ≤ c → high_part p ≡ Outside → high_says p (encode c) ≡ flush p ++ encode c → f ≡ flush p → (rest : List ℕ) → content_from (ends_of e) p (encode c ++ rest) ≡ f ++ (encode c ++ content_from (ends_of e) Outside rest)
says_flush e p c f h k g i rest =
    high_content e p c rest h
    ∙ ap₂ (λ (t : List ℕ) (q : Part). t ++ content_from (ends_of e) q rest) g k
    ∙ append_assoc (flush p) (encode c) (content_from (ends_of e) Outside rest)
    ∙ ap (λ t. t ++ (encode c ++ content_from (ends_of e) Outside rest)) (sym i)

pub says_over : (e : End) (p : Part) (c : ℕ) → 128 ≤ c → is_over p ≡ true → (rest : List ℕ) → content_from (ends_of e) p (encode c ++ rest) ≡ content_from (ends_of e) p rest
says_over e Over c h k rest = high_content e Over c rest h
says_over e p c h k rest = cc

pub says_high : (e : End) (p : Part) (c : ℕ) (f : List ℕ) → 128 ≤ c → is_over p ≡ false → f ≡ flush p → (rest : List ℕ) → content_from (ends_of e) p (encode c ++ rest) ≡ f ++ (encode c ++ content_from (ends_of e) Outside rest)
says_high e Over c f h k i rest = cc
says_high e Outside c f h k i rest = says_flush e Outside c f h refl refl i rest
says_high e Begun c f h k i rest = says_flush e Begun c f h refl refl i rest
says_high e (Digits more v) c f h k i rest = says_flush e (Digits more v) c f h refl refl i rest
says_high e Return c f h k i rest = says_flush e Return c f h refl refl i rest

-- The turn of the loop over characters.

pub said_turn : (ends : ℕ → Bool) (text old one two : List ℕ) (cs : List ℕ) (n m c : ℕ) (p : Part) (said : Said) → old ++ content_from ends p (encodes (drop n cs)) ≡ text → (n < length cs) × (c ≡ get_or cs n c) → m ≡ n + 1 → Says ends p (encode c) said → one ≡ old ++ escaped_text said.escaped → two ≡ one ++ escaped_text said.own → two ++ content_from ends said.part (encodes (drop m cs)) ≡ text
said_turn ends text old one two cs n m c p said h w e s f g =
    let rest = content_from ends said.part (encodes (drop (n + 1) cs)) in
    ap₂ (λ (t : List ℕ) (k : ℕ). t ++ content_from ends said.part (encodes (drop k cs))) (g ∙ ap (λ t. t ++ escaped_text said.own) f) e
    ∙ append_assoc (old ++ escaped_text said.escaped) (escaped_text said.own) rest
    ∙ append_assoc old (escaped_text said.escaped) (escaped_text said.own ++ rest)
    ∙ ap (λ t. old ++ t) (sym (s (encodes (drop (n + 1) cs))))
    ∙ ap (λ t. old ++ content_from ends p t) (sym (at_drop_more encodes cs n c w.0 ∙ ap (λ x. encode x ++ encodes (drop (n + 1) cs)) (sym w.1)))
    ∙ h

pub said_end : (ends : ℕ → Bool) (text old new : List ℕ) (cs : List ℕ) (n : ℕ) (p : Part) (f : List ℕ) → old ++ content_from ends p (encodes (drop n cs)) ≡ text → n ≡ length cs → f ≡ flush p → new ≡ old ++ f → new ≡ text
said_end ends text old new cs n p f h e g i =
    i ∙ ap (λ t. old ++ t) g ∙ ap (λ t. old ++ content_from ends p (encodes t)) (sym (drop_all n cs (omega arith))) ∙ h

-- A text without `\`.

pub plain_more : (ends : ℕ → Bool) (text : List ℕ) (i : ℕ) → i < length text → ends (get_or text i 0) ≡ false → nat_eq (get_or text i 0) 92 ≡ false → content_from ends Outside (drop i text) ≡ get_or text i 0 ∷ content_from ends Outside (drop (i + 1) text)
plain_more ends text i l h k =
    let b = get_or text i 0 in
    let d : drop i text ≡ b ∷ drop (i + 1) text = rw (add-one, drop-cons text i 0) in
    ap (content_from ends Outside) d ∙ rw h (rw k refl)

pub plain_end : (ends : ℕ → Bool) (text : List ℕ) (i : ℕ) → i < length text → ends (get_or text i 0) ≡ true → content_from ends Outside (drop i text) ≡ []
plain_end ends text i l h =
    let b = get_or text i 0 in
    let d : drop i text ≡ b ∷ drop (i + 1) text = rw (add-one, drop-cons text i 0) in
    ap (content_from ends Outside) d ∙ rw h (over_none ends (drop (i + 1) text))
