use Rattle.std.proofs.Common.{◌≡◌, ℕ, ◌<◌, ◌≤◌, List, length, slice_index_or, Some, refl, sym, ap, ◌++◌, ◌∙◌, arith}
use Rattle.std.specs.Prelude.{slice_get}
use Rattle.std.proofs.lemmas.List.{length-map}
use Rattle.pg_dict.specs.declared.sites.Site.{Site}
use Rattle.pg_dict.specs.declared.store.Store.{Store}
use Rattle.pg_dict.specs.declared.store.StoredWord.{StoredWord}
use Rattle.pg_dict.specs.Word.{Word}
use Rattle.pg_dict.specs.Inside.Sites.{all_sites}
use Rattle.pg_dict.specs.Inside.Store.{columns_of, word_at, stored_words, IsSound}
use Rattle.pg_dict.specs.Inside.LentWords.{lent_word}
use Rattle.pg_dict.proofs.WordStore.Told.{word_in, word_stored, word_within}
use Rattle.pg_dict.proofs.WordStore.SiteRows.{word_added, words_added}
use Rattle.pg_dict.proofs.sites.sites_of.Goals as goal
use Rattle.pg_dict.proofs.sites.sites_of.Goals.{After-lend}

-- a stored word lies within the columns
inside : (s : Store) (i : ℕ) (w : StoredWord) → IsSound s → i < length s.words.items → w ≡ slice_index_or s.words.items i w → (w.start ≤ w.end) × (w.end ≤ length s.signs.items)
inside s i w sound within at = word_within s (stored_words s) i w sound refl (omega (arith, length-map s.words.items (word_at (columns_of s)))) at

pub words-init : goal.words-init
words-init c = ap (λ (items : List Site). items ++ all_sites (stored_words c.args.store.now)) c.in_ok-sites.ensures.items

pub lend-requires-clause-begins : goal.lend-requires-clause-begins
lend-requires-clause-begins c = (inside c.args.store.now c.words.i c.index-word.result.now c.requires (omega arith) c.index-word.ensures).0

pub lend-requires-clause-ends : goal.lend-requires-clause-ends
lend-requires-clause-ends c = (inside c.args.store.now c.words.i c.index-word.result.now c.requires (omega arith) c.index-word.ensures).1

-- the word that is lent
lent : (c : After-lend) → slice_get (stored_words c.args.store.now) c.words.i ≡ Some (lent_word c.lend.result)
lent c =
    let inside : c.words.i < length (stored_words c.args.store.now) = omega (arith, length-map c.args.store.now.words.items (word_at (columns_of c.args.store.now))) in
    word_stored c.args.store.now (stored_words c.args.store.now) c.words.i c.index-word.result.now refl inside c.index-word.ensures ∙ ap (λ (w : Word). Some w) (sym c.lend.ensures)

pub push_sites-requires : goal.push_sites-requires
push_sites-requires c = word_in (stored_words c.args.store.now) c.words.i (lent_word c.lend.result) c.requires.words (lent (goal.at.push_sites-requires c).After-lend)

pub words-preserved : goal.words-preserved
words-preserved c = word_added (stored_words c.args.store.now) c.words.sites.items c.push_sites.new.sites.items _ c.words.i (lent_word c.lend.result)
    (lent (goal.at.words-preserved c).After-lend) c.in_ok-push_sites.ensures c.words.invariant

pub returns : goal.returns
returns c = words_added (stored_words c.args.store.now) c.words.sites.items _ c.words.i
    (omega (arith, length-map c.args.store.now.words.items (word_at (columns_of c.args.store.now)))) c.words.invariant
