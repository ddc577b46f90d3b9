use Rattle.pg_texts.proofs.ReadBack.{list_reads}
use Rattle.pg_texts.proofs.laws.lists_are_read.Goals as goal

pub returns : goal.returns
returns c =
    list_reads c.args.table.now (record {
      spelled = c.items_are_read.ensures.spellings;
      items_lines = c.items_are_lines.ensures;
      words_read = c.words_are_read.ensures;
      lines_read = c.lines_are_read.ensures;
      files_read = c.files_are_read.ensures;
    })
