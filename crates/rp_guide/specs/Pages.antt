-- Which words ask for a help page or for the version, and the text that answers them (this project's own texts, which
-- stand in `src/texts.rt`).
use Rattle.std.specs.Prelude.{ℕ, List, [], ◌∷◌, ◌==◌, Option, Some, None, codes, if◌then◌else◌, length, map}
use Rattle.std.specs.Prelude.{slice_index_or}
use Rattle.std.specs.Str.{bytes_eq}
use Rattle.rp_guide.specs.declared.texts.TheConstants.{PANEL_PAGES, PANEL_VERSION, WIDE_PAGES, WIDE_VERSION}

-- the page of a command, by the name of the command; the page of the program stands under the empty name
abbrev pub page_named : List (List ℕ × List ℕ) → List ℕ → Option (List ℕ)
page_named [] name = None
page_named (page ∷ pages) name = if bytes_eq page.0 name then Some page.1 else page_named pages name

-- what one word asks for
abbrev pub page_of_word : List (List ℕ × List ℕ) → List ℕ → List ℕ → Option (List ℕ)
page_of_word pages version word =
    if bytes_eq word (codes "--help") then page_named pages []
    else if bytes_eq word (codes "--version") then Some version
    else None

-- what a command and a word ask for
abbrev pub page_of_command : List (List ℕ × List ℕ) → List ℕ → List ℕ → Option (List ℕ)
page_of_command pages command word = if bytes_eq word (codes "--help") then page_named pages command else None

-- what words ask for, of which the first is the program's name: `--help`, `--version` or `COMMAND --help`
abbrev pub page_of : List (List ℕ × List ℕ) → List ℕ → List (List ℕ) → Option (List ℕ)
page_of pages version words =
    if length words == 2 then page_of_word pages version (slice_index_or words 1 [])
    else if length words == 3 then page_of_command pages (slice_index_or words 1 []) (slice_index_or words 2 [])
    else None

-- of `rp-wide`
unfoldable pub wide_page : List (List ℕ) → Option (List ℕ)
wide_page words = page_of (map (λ p. (p.0.now, p.1.now)) WIDE_PAGES) WIDE_VERSION.now words

-- of `rp-panel`
unfoldable pub panel_page : List (List ℕ) → Option (List ℕ)
panel_page words = page_of (map (λ p. (p.0.now, p.1.now)) PANEL_PAGES) PANEL_VERSION.now words
