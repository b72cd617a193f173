use Rattle.std.proofs.Common.{true, false}
use Rattle.lx_cli.proofs.PlainNames.{plain_name_asks}
use Rattle.lx_cli.proofs.PlainOrders.{of_run, of_scan, plain_words_ask}
use Rattle.lx_cli.proofs.reading.plain_words_ask.Goals as goal

pub returns : goal.returns
returns c = record {
  gens = plain_name_asks true;
  ups = plain_name_asks false;
  runs = λ program workers number spec file files some_workers some_items.
      plain_words_ask (of_run workers) program number spec file files (some_workers, some_items);
  scans = λ program workers number tables file files some_workers some_items.
      plain_words_ask (of_scan workers) program number tables file files (some_workers, some_items);
}
