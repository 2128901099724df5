-- A line feed behind a text that was printed for tokens changes none of them.
use Rattle.std.proofs.Common.{◌≡◌, ℕ, Bool, true, false, cond, ◌&&◌, List, [], ◌∷◌, ◌++◌, refl, sym, ap, ap₂, ◌∙◌, append_assoc, append-nil}
use Rattle.json.specs.Token.{Token, begin_object, end_object, begin_array, end_array, key, string, number, boolean, null, bad}
use Rattle.json.specs.Word.{ends_word, word}
use Rattle.json.specs.Lex.{Lexeme, token, comma, colon, string_token, lex, between, fresh, punctuate, tokens}
use Rattle.json.specs.Print.{escape, quoted, token_text, begins, ends, print_from, print, IsPrintable, ArePrintable}
use Rattle.json.proofs.Printed.Strings.{content-escape, lex-escape}
use Rattle.json.proofs.Printed.Numbers.{lex-number, in_word-ended}
use Rattle.json.proofs.Printed.Tokens.{tokens-print}

abbrev token_lexemes : Token → List Lexeme
token_lexemes begin_object = token begin_object ∷ []
token_lexemes end_object = token end_object ∷ []
token_lexemes begin_array = token begin_array ∷ []
token_lexemes end_array = token end_array ∷ []
token_lexemes (key s) = token (string s) ∷ colon ∷ []
token_lexemes (string s) = token (string s) ∷ []
token_lexemes (number s) = token (number s) ∷ []
token_lexemes (boolean b) = token (boolean b) ∷ []
token_lexemes null = token null ∷ []
token_lexemes bad = []

-- after a value stands a comma, a closing bracket or what follows the text
after_value_ends : (ts : List Token) (r : List ℕ) → ends_word r ≡ true → ends_word (print_from true ts ++ r) ≡ true
unfolding print_from
after_value_ends [] r ended = ended
after_value_ends (begin_object ∷ ts) r ended = refl
after_value_ends (end_object ∷ ts) r ended = refl
after_value_ends (begin_array ∷ ts) r ended = refl
after_value_ends (end_array ∷ ts) r ended = refl
after_value_ends (key s ∷ ts) r ended = refl
after_value_ends (string s ∷ ts) r ended = refl
after_value_ends (number s ∷ ts) r ended = refl
after_value_ends (boolean b ∷ ts) r ended = refl
after_value_ends (null ∷ ts) r ended = refl
after_value_ends (bad ∷ ts) r ended = refl

lex_quoted : (s r : List ℕ) → lex between (quoted s ++ r) ≡ token (string s) ∷ lex between r
unfolding lex
lex_quoted s r =
    let e = append_assoc (escape s) (34 ∷ []) r in
    ap (λ l. lex between (34 ∷ l)) e ∙ ap₂ (λ o l. token (string_token o) ∷ l) (content-escape s r) (lex-escape s r)

lex_token : (t : Token) (r : List ℕ) → IsPrintable t → (ends t ≡ true → ends_word r ≡ true) → lex between (token_text t ++ r) ≡ token_lexemes t ++ lex between r
unfolding lex word
lex_token begin_object r h ended = refl
lex_token end_object r h ended = refl
lex_token begin_array r h ended = refl
lex_token end_array r h ended = refl
lex_token (key s) r h ended = ap (lex between) (append_assoc (quoted s) (58 ∷ []) r) ∙ lex_quoted s (58 ∷ r)
lex_token (string s) r h ended = lex_quoted s r
lex_token (number s) r h ended = lex-number s r h (ended refl)
lex_token (boolean true) r h ended = ap₂ (λ b l. token (cond b (boolean true) bad) ∷ l) (ended refl) (in_word-ended r (ended refl))
lex_token (boolean false) r h ended = ap₂ (λ b l. token (cond b (boolean false) bad) ∷ l) (ended refl) (in_word-ended r (ended refl))
lex_token null r h ended = ap₂ (λ b l. token (cond b null bad) ∷ l) (ended refl) (in_word-ended r (ended refl))
lex_token bad r h ended = absurd h

lex_separator : (b : Bool) (r : List ℕ) → lex between (cond b (44 ∷ []) [] ++ r) ≡ cond b (comma ∷ []) [] ++ lex between r
unfolding lex
lex_separator true r = refl
lex_separator false r = refl

regroup : (a b c r : List ℕ) → (a ++ (b ++ c)) ++ r ≡ a ++ (b ++ (c ++ r))
regroup a b c r = simp append_assoc

-- texts with the same lexemes have the same behind printed tokens
same_before : (c : Bool) (ts : List Token) (r s : List ℕ) → ArePrintable ts → ends_word r ≡ true → ends_word s ≡ true → lex between r ≡ lex between s
    → lex between (print_from c ts ++ r) ≡ lex between (print_from c ts ++ s)
unfolding lex print_from ArePrintable
same_before c [] r s h er es e = e
same_before c (t ∷ ts) r s h er es e =
    let sep = cond (c && begins t) (44 ∷ []) [] in
    let rest = print_from (ends t) ts in
    let down : (q : List ℕ) → ends_word q ≡ true → lex between ((sep ++ (token_text t ++ rest)) ++ q) ≡ cond (c && begins t) (comma ∷ []) [] ++ (token_lexemes t ++ lex between (rest ++ q)) =
    λ q ended. ap (lex between) (regroup sep (token_text t) rest q) ∙ lex_separator (c && begins t) _
    ∙ ap (λ l. cond (c && begins t) (comma ∷ []) [] ++ l)
    (lex_token t (rest ++ q) h.0 (λ last. ap (λ b. ends_word (print_from b ts ++ q)) last ∙ after_value_ends ts q ended)) in
    down r er ∙ ap (λ l. cond (c && begins t) (comma ∷ []) [] ++ (token_lexemes t ++ l)) (same_before (ends t) ts r s h.1 er es e) ∙ sym (down s es)

-- Tokens that were printed are read back, also with a line feed behind them.
pub tokens_of_line : (ts : List Token) → ArePrintable ts → tokens (print ts ++ 10 ∷ []) ≡ ts
unfolding lex
tokens_of_line ts h =
    ap (punctuate fresh) (same_before false ts (10 ∷ []) [] h refl refl refl ∙ ap (lex between) (append-nil (print ts))) ∙ tokens-print ts h
