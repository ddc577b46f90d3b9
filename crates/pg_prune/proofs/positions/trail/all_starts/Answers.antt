use Rattle.std.proofs.Common.{◌≡◌, ◌≤◌, ◌+◌, ◌-◌, ◌++◌, List, [], sym, length, drop, sum_by, ap, ◌∙◌, arith}
use Rattle.std.proofs.lemmas.List.Elements.{All-append, All-nil, All-same}
use Rattle.pg_dict.specs.Inside.LentWords.{lent_word}
use Rattle.pg_dict.specs.Inside.SoundWords.{letter_count}
use Rattle.pg_dict.proofs.WordStore.Parts.{letters_from}
use Rattle.pg_prune.specs.Inside.positions.Trails.{IsStart, starts_in, starts_from, reach_count, count_between, all_starts as all_starts_of}
use Rattle.pg_prune.proofs.positions.TrailStarts.{word_more, known_in}
use Rattle.std.proofs.lemmas.List.{append-nil, drop_all}
use Rattle.pg_dict.specs.Word.{Word}
use Rattle.pg_prune.specs.declared.positions.trail.Start.{Start}
use Rattle.pg_prune.proofs.positions.trail.all_starts.Goals as goal
use Rattle.pg_prune.proofs.positions.trail.all_starts.Goals.{in-Some, in_default}

pub words-preserved : goal.words-preserved
words-preserved c =
    let ws = c.args.dictionary.now in
    let m = c.args.table.now in
    let w = lent_word c.word-w.result in
    let added : c.push_starts.new.starts.items ≡ c.words.starts.items ++ starts_in c.words.word c.words.before (length w.signs) = c.in_ok-push_starts.ensures in
    let size : (c.match-reach.before ≡ c.words.before + reach_count m (length w.signs)) × (reach_count m (length w.signs) ≤ letter_count w) =
    elim c.match-reach.branch [
      | in-Some v ↦
          let wide : v.in-Some.last + 1 - v.in-Some.first ≡ reach_count m (length w.signs) = ap count_between v.in-Some.ensures.value in
          (omega (arith, v.before-is), omega (arith, v.in-Some.ensures.between))
      | in_default v ↦ let wide : 0 ≡ reach_count m (length w.signs) = ap count_between v.in_default.ensures.value in (omega (arith, v.before-is), omega arith)
    ] in
    let next : c.match-reach.before ≡ c.words.before + reach_count m (length w.signs) = size.0 in
    let fewer : reach_count m (length w.signs) ≤ letter_count w = size.1 in
    let letters : sum_by letter_count (drop c.words.word ws) ≡ letter_count w + sum_by letter_count (drop (c.words.word + 1) ws) = letters_from ws c.words.word w c.word-w.ensures.lent in
    record {
      whole =
          ap (λ xs. xs ++ starts_from m (c.words.word + 1) c.match-reach.before (drop (c.words.word + 1) ws)) added
          ∙ ap (λ n. (c.words.starts.items ++ starts_in c.words.word c.words.before (length w.signs)) ++ starts_from m (c.words.word + 1) n (drop (c.words.word + 1) ws)) next
          ∙ word_more m ws c.words.word c.words.before c.words.starts.items (all_starts_of m ws) w c.word-w.ensures.lent c.words.invariant.whole;
      few = omega (arith, c.words.invariant.few);
      known = All-same (IsStart ws) _ _ added (All-append (IsStart ws) c.words.starts.items (starts_in c.words.word c.words.before (length w.signs)) c.words.invariant.known
          (known_in ws c.words.word c.words.before w c.word-w.ensures.lent (omega arith) (omega (arith, c.words.invariant.few))));
    }

pub word-w-requires : goal.word-w-requires
word-w-requires c = omega (arith, c.words-test.true, c.len-word-end.ensures.len)

pub words-init : goal.words-init
words-init c =
    let ws = c.args.dictionary.now in
    record {
      whole = ap (λ (xs : List Start). xs ++ all_starts_of c.args.table.now ws) c.new-starts.ensures.items;
      few = omega (arith, c.len-word-end.ensures.letters);
      known = All-same (IsStart ws) _ _ c.new-starts.ensures.items (All-nil (IsStart ws));
    }

pub returns-clause-starts : goal.returns-clause-starts
returns-clause-starts c =
    let ws = c.args.dictionary.now in
    let none : drop c.words.word ws ≡ [] = drop_all c.words.word ws (omega (arith, c.words-test.false, c.len-word-end.ensures.len)) in
    sym (append-nil c.words.starts.items)
    ∙ ap (λ (us : List Word). c.words.starts.items ++ starts_from c.args.table.now c.words.word c.words.before us) (sym none)
    ∙ c.words.invariant.whole

pub returns-clause-known : goal.returns-clause-known
returns-clause-known c = c.words.invariant.known
