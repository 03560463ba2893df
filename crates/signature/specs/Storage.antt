-- What a signature is stored in: the rows and words that a caller lends, with how many of each are in use, and the signature that they denote.
use Rattle.std.specs.Prelude.{ℕ, ◌+◌, Bool, List, [], ◌∷◌}
use Rattle.resolution.specs.Rules.{Rule}
use Rattle.names.specs.Symbols.{Rows, Symbol, sorts_of, symbols_of}
use Rattle.rules.specs.PatternLaws.{nodes}
use Rattle.loader.specs.Signature.{Signature}
use Rattle.signature.specs.Form.{rules_of, Listed, Checked}
use Rattle.signature.specs.declared.Counts.{Counts}
use Rattle.signature.specs.declared.StoredSignature.{StoredSignature}

pub record SignatureStore : Type 0 where
  pub sorts : Rows
  pub symbols : Rows
  pub rules : Rows
  pub words : List ℕ
  pub counts : Counts

-- What a struct of references to it holds.
abbrev pub store_of : StoredSignature → SignatureStore
store_of s = record { sorts = s.sorts.now; symbols = s.symbols.now; rules = s.rules.now; words = s.words.now; counts = s.counts }

-- Its symbols and rules, over a text.
abbrev pub symbols_in : List ℕ → SignatureStore → List Symbol
symbols_in text sg = symbols_of text sg.symbols sg.counts.symbols

abbrev pub rules_in : List ℕ → SignatureStore → List Rule
rules_in text sg = rules_of text sg.words sg.rules sg.counts.rules

-- How many nodes rules have.
unfoldable pub nodes_of : List Rule → ℕ
nodes_of [] = 0
nodes_of (R ∷ Rs) = nodes R.premises + nodes R.conclusion + nodes_of Rs

-- The signature that it denotes.
unfoldable pub signature_of : List ℕ → SignatureStore → Signature
signature_of text sg =
    record {
      sorts = sorts_of text sg.sorts sg.counts.sorts;
      symbols = symbols_in text sg;
      rules = rules_in text sg;
      nodes = nodes_of (rules_in text sg);
    }

-- It is in the listed form.
abbrev pub SignatureListed : List ℕ → SignatureStore → Type 0
SignatureListed text sg =
    Listed text sg.sorts sg.symbols sg.rules sg.words sg.counts.sorts sg.counts.symbols sg.counts.rules sg.counts.words

-- What `check_signature` answers of it.
abbrev pub SignatureChecked : List ℕ → SignatureStore → Bool → Type 0
SignatureChecked text sg r =
    Checked text sg.sorts sg.symbols sg.rules sg.words sg.counts.sorts sg.counts.symbols sg.counts.rules sg.counts.words r
