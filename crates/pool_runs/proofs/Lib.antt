mod Drains
