mod Laws
mod Tests
mod Verdicts
mod Links
mod Opened
mod Reached
mod Released
mod Worked
